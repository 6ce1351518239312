-- The law `logs_say_states` holds.
use Rattle.test_states.proofs.Logs.{logs_say_states}
use Rattle.test_states.proofs.logs_say_states.Goals as goal

pub returns : goal.returns
returns c = logs_say_states
