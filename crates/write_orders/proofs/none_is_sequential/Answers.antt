-- The law `none_is_sequential` holds.
use Rattle.write_orders.proofs.AlwaysBefore.{none_is_sequential}
use Rattle.write_orders.proofs.none_is_sequential.Goals as goal

pub returns : goal.returns
returns c = none_is_sequential
