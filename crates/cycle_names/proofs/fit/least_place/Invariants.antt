-- The place kept is the least of those passed.
use Rattle.cycle_names.proofs.Places.{IsKept}
use Rattle.cycle_names.proofs.fit.least_place.Given as goal

abbrev pub invariant-loop-place : goal.invariant-loop-place
invariant-loop-place l = IsKept l.fn.edges l.fn.family l.place l.least
