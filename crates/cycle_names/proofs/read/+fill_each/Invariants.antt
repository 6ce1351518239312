-- The filling of slots ends, since each step leaves fewer slots.
use Rattle.std.proofs.Common.{length}
use Rattle.cycle_names.proofs.read.+fill_each.Given as goal

abbrev pub decreases-fill_each : goal.decreases-fill_each
decreases-fill_each l = length l.slots.now
