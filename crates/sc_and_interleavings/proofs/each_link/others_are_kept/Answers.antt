-- The law `others_are_kept` holds.
use Rattle.sc_and_interleavings.proofs.OneLink.{others_are_kept}
use Rattle.sc_and_interleavings.proofs.each_link.others_are_kept.Goals as goal

pub returns : goal.returns
returns c = others_are_kept
