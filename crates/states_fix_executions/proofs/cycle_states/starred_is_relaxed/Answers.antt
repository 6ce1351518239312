-- The law `starred_is_relaxed` holds.
use Rattle.states_fix_executions.proofs.Cycles.{starred_is_relaxed}
use Rattle.states_fix_executions.proofs.cycle_states.starred_is_relaxed.Goals as goal

pub returns : goal.returns
returns c = starred_is_relaxed
