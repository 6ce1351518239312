-- The law `kept_orders_forbid` holds.
use Rattle.sc_and_interleavings.proofs.InterleavingLaws.{kept_orders_forbid}
use Rattle.sc_and_interleavings.proofs.each_link.kept_orders_forbid.Goals as goal

pub returns : goal.returns
returns c = kept_orders_forbid
