-- That the test of each cycle that has one forces the cycle.
use Rattle.tests_force_cycles.proofs.Headline.{tests_force_law}
use Rattle.tests_force_cycles.proofs.tests_force.Goals as goal

pub returns : goal.returns
returns c = tests_force_law
