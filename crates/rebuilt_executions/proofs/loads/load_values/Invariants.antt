-- In the loop over the code: the values so far, before those of the code that is left.
use Rattle.std.proofs.Common.{◌≡◌, drop}
use Rattle.rebuilt_executions.specs.LoadValues.{load_values}
use Rattle.rebuilt_executions.proofs.LoadWalks.{before}
use Rattle.rebuilt_executions.proofs.loads.load_values.Given as goal

abbrev pub invariant-loop-i : goal.invariant-loop-i
invariant-loop-i l = load_values l.known l.code ≡ before l.values.items (load_values l.known (drop l.i l.code))
