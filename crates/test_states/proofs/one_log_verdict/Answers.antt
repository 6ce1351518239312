-- The law `one_log_verdict` holds.
use Rattle.test_states.proofs.Logs.{one_log_verdict}
use Rattle.test_states.proofs.one_log_verdict.Goals as goal

pub returns : goal.returns
returns c = one_log_verdict
