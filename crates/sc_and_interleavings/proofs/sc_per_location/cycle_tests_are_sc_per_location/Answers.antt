-- The law `cycle_tests_are_sc_per_location` holds.
use Rattle.sc_and_interleavings.proofs.CoherenceLaws.{cycle_tests_are_sc_per_location}
use Rattle.sc_and_interleavings.proofs.sc_per_location.cycle_tests_are_sc_per_location.Goals as goal

pub returns : goal.returns
returns c = cycle_tests_are_sc_per_location
