-- That each test that is a cycle's test but for the numbers of places forces the cycle.
use Rattle.tests_force_cycles.proofs.Headline.{renumbered_force_law}
use Rattle.tests_force_cycles.proofs.renumbered_tests_force.Goals as goal

pub returns : goal.returns
returns c = renumbered_force_law
