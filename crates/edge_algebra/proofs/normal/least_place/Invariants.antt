-- Of the rotations from the places passed, none is less than the one from the least place so far.
use Rattle.edge_algebra.proofs.Windows.{LeastUpTo}
use Rattle.edge_algebra.proofs.normal.least_place.Given as goal

abbrev pub invariant-loop-place : goal.invariant-loop-place
invariant-loop-place l = LeastUpTo l.fn.edges l.place l.least
