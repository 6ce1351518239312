-- In the loop over the code: the answer is that for the code that is left.
use Rattle.std.proofs.Common.{◌≡◌, drop}
use Rattle.rebuilt_executions.specs.LoadValues.{runs_through}
use Rattle.rebuilt_executions.proofs.loads.runs_through.Given as goal

abbrev pub invariant-loop-i : goal.invariant-loop-i
invariant-loop-i l = runs_through l.code ≡ runs_through (drop l.i l.code)
