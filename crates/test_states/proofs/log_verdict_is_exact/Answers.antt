-- The law `log_verdict_is_exact` holds.
use Rattle.test_states.proofs.Logs.{log_verdict_is_exact}
use Rattle.test_states.proofs.log_verdict_is_exact.Goals as goal

pub returns : goal.returns
returns c = log_verdict_is_exact
