-- The marking ends, since each step leaves fewer edges.
use Rattle.std.proofs.Common.{length}
use Rattle.cycle_enum.proofs.letters.+mark_edges.Given as goal

abbrev pub decreases-mark_edges : goal.decreases-mark_edges
decreases-mark_edges l = length l.edges.now
