-- The law `forced_is_only` holds.
use Rattle.write_orders.proofs.Forced.{forced_is_only}
use Rattle.write_orders.proofs.forced_is_only.Goals as goal

pub returns : goal.returns
returns c = forced_is_only
