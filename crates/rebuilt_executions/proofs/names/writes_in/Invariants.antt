-- In the loop over the names: the writes so far, and those among the names that are left, are all.
use Rattle.std.proofs.Common.{◌≡◌, ◌++◌, drop}
use Rattle.program_meaning.specs.Interleavings.{writes_in}
use Rattle.rebuilt_executions.proofs.names.writes_in.Given as goal

abbrev pub invariant-loop-name : goal.invariant-loop-name
invariant-loop-name l = l.writes.items ++ writes_in l.all l.place (drop l.name-index l.names) ≡ writes_in l.all l.place l.names
