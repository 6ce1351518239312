-- The marking ends, since each step leaves fewer edges.
use Rattle.std.proofs.Common.{length}
use Rattle.cycle_names.proofs.read.+mark_along.Given as goal

abbrev pub decreases-mark_along : goal.decreases-mark_along
decreases-mark_along l = length l.unmarked.now
