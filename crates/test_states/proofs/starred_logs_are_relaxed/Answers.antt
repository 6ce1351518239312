-- The law `starred_logs_are_relaxed` holds.
use Rattle.test_states.proofs.Logs.{starred_logs_are_relaxed}
use Rattle.test_states.proofs.starred_logs_are_relaxed.Goals as goal

pub returns : goal.returns
returns c = starred_logs_are_relaxed
