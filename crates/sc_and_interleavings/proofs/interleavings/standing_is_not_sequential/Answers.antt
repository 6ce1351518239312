-- The law `standing_is_not_sequential` holds.
use Rattle.sc_and_interleavings.proofs.InterleavingLaws.{standing_is_not_sequential}
use Rattle.sc_and_interleavings.proofs.interleavings.standing_is_not_sequential.Goals as goal

pub returns : goal.returns
returns c = standing_is_not_sequential
