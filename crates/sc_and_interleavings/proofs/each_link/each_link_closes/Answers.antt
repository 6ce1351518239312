-- The law `each_link_closes` holds.
use Rattle.sc_and_interleavings.proofs.OneLink.{each_link_closes}
use Rattle.sc_and_interleavings.proofs.each_link.each_link_closes.Goals as goal

pub returns : goal.returns
returns c = each_link_closes
