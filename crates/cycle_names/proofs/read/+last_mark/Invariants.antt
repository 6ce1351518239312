-- The way to the last edge ends, since each step leaves fewer edges.
use Rattle.std.proofs.Common.{length}
use Rattle.cycle_names.proofs.read.+last_mark.Given as goal

abbrev pub decreases-last_mark : goal.decreases-last_mark
decreases-last_mark l = length l.edges.now
