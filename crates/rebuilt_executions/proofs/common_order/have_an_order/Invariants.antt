-- In the loop: the answer is whether what is left is emptied, and each round takes one away.
use Rattle.std.proofs.Common.{◌≡◌, length}
use Rattle.states_fix_executions.specs.Ordered.{empties}
use Rattle.write_orders.specs.WriteOrders.{always_before, have_an_order}
use Rattle.rebuilt_executions.specs.Settled.{end_at}
use Rattle.rebuilt_executions.proofs.common_order.have_an_order.Given as goal

abbrev pub invariant-loop-k : goal.invariant-loop-k
invariant-loop-k l = have_an_order l.all (end_at l.ends) ≡ empties (always_before l.all (end_at l.ends)) (length l.left.items) l.left.items

abbrev pub decreases-loop-k : goal.decreases-loop-k
decreases-loop-k l = length l.left.items
