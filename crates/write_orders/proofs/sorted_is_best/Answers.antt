-- The law `sorted_is_best` holds.
use Rattle.write_orders.proofs.Best.{sorted_is_best}
use Rattle.write_orders.proofs.sorted_is_best.Goals as goal

pub returns : goal.returns
returns c = sorted_is_best
