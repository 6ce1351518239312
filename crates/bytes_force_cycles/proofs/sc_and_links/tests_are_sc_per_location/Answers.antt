-- The law `tests_are_sc_per_location` holds.
use Rattle.bytes_force_cycles.proofs.ScLaws.{tests_are_sc_per_location}
use Rattle.bytes_force_cycles.proofs.sc_and_links.tests_are_sc_per_location.Goals as goal

pub returns : goal.returns
returns c = tests_are_sc_per_location
