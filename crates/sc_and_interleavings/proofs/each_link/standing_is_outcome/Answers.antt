-- The law `standing_is_outcome` holds.
use Rattle.sc_and_interleavings.proofs.Outcomes.{standing_is_outcome}
use Rattle.sc_and_interleavings.proofs.each_link.standing_is_outcome.Goals as goal

pub returns : goal.returns
returns c = standing_is_outcome
