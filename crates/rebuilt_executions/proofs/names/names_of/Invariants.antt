-- In the loop over the threads: the names so far, and those that are left, make up the whole.
use Rattle.std.proofs.Common.{◌≡◌, ◌++◌}
use Rattle.states_fix_executions.specs.Listed.{names_of}
use Rattle.rebuilt_executions.proofs.NameWalks.{names_after}
use Rattle.rebuilt_executions.proofs.names.names_of.Given as goal

abbrev pub invariant-loop-thread : goal.invariant-loop-thread
invariant-loop-thread l = l.names.items ++ names_after l.all l.thread ≡ names_of l.all
