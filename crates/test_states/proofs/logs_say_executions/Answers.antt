-- The law `logs_say_executions` holds.
use Rattle.test_states.proofs.Logs.{logs_say_executions}
use Rattle.test_states.proofs.logs_say_executions.Goals as goal

pub returns : goal.returns
returns c = logs_say_executions
