-- The law `logs_are_decided` holds.
use Rattle.test_states.proofs.Logs.{logs_are_decided}
use Rattle.test_states.proofs.logs_are_decided.Goals as goal

pub returns : goal.returns
returns c = logs_are_decided
