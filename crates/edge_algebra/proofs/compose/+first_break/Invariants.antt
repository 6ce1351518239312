-- The search for a break ends, since each step leaves fewer edges.
use Rattle.std.proofs.Common.{length}
use Rattle.edge_algebra.proofs.compose.+first_break.Given as goal

abbrev pub decreases-first_break : goal.decreases-first_break
decreases-first_break l = length l.edges.now
