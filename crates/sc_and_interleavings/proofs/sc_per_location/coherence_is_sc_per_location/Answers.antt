-- The law `coherence_is_sc_per_location` holds.
use Rattle.sc_and_interleavings.proofs.CoherenceLaws.{coherence_is_sc_per_location}
use Rattle.sc_and_interleavings.proofs.sc_per_location.coherence_is_sc_per_location.Goals as goal

pub returns : goal.returns
returns c = coherence_is_sc_per_location
