-- In the loop over the accesses: those before this one are listed.
use Rattle.std.proofs.Common.{◌≡◌, take}
use Rattle.rebuilt_executions.proofs.order.copied.Given as goal

abbrev pub invariant-loop-e : goal.invariant-loop-e
invariant-loop-e l = l.list.items ≡ take l.e-index l.seen
