-- The law `accepted_have_tests` holds.
use Rattle.co_tests.proofs.Accepted.{accepted_has_test}
use Rattle.co_tests.proofs.law.accepted_have_tests.Goals as goal

pub returns : goal.returns
returns g c = accepted_has_test g.A.Arch.puts
