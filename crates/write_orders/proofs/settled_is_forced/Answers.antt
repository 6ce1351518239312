-- The law `settled_is_forced` holds.
use Rattle.write_orders.proofs.Forced.{settled_is_forced}
use Rattle.write_orders.proofs.settled_is_forced.Goals as goal

pub returns : goal.returns
returns c = settled_is_forced
