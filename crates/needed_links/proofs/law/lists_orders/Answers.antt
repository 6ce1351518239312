-- The law `lists_orders` holds.
use Rattle.needed_links.proofs.OrderLines.{lists_orders}
use Rattle.needed_links.proofs.law.lists_orders.Goals as goal

pub returns : goal.returns
returns c = lists_orders
