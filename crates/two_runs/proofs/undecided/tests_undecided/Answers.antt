-- The law `tests_undecided` holds.
use Rattle.two_runs.proofs.ExchangeLaws.{tests_undecided_law}
use Rattle.two_runs.proofs.undecided.tests_undecided.Goals as goal

pub returns : goal.returns
returns c = tests_undecided_law
