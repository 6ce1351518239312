-- In the loop over the final values: the answer is that for those that are left.
use Rattle.std.proofs.Common.{◌≡◌, drop}
use Rattle.program_meaning.specs.{Coherence.order_at, Deciding.every}
use Rattle.write_orders.specs.WriteOrders.{is_forced}
use Rattle.rebuilt_executions.specs.Settled.{are_forced}
use Rattle.rebuilt_executions.proofs.forced.are_forced.Given as goal

abbrev pub invariant-loop-place : goal.invariant-loop-place
invariant-loop-place l = are_forced l.all l.ends l.exec ≡ every (λ place end. is_forced l.all place end (order_at l.exec place)) l.place (drop l.place l.ends)
