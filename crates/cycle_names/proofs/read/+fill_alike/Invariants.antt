-- The filling of slots ends, since each step leaves fewer slots.
use Rattle.std.proofs.Common.{length}
use Rattle.cycle_names.proofs.read.+fill_alike.Given as goal

abbrev pub decreases-fill_alike : goal.decreases-fill_alike
decreases-fill_alike l = length l.slots.now
