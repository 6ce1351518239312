-- The law `candidates_are_sc_per_location` holds.
use Rattle.sc_and_interleavings.proofs.CoherenceLaws.{candidates_are_sc_per_location}
use Rattle.sc_and_interleavings.proofs.sc_per_location.candidates_are_sc_per_location.Goals as goal

pub returns : goal.returns
returns c = candidates_are_sc_per_location
