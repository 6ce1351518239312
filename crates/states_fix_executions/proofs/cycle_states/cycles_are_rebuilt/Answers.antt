-- The law `cycles_are_rebuilt` holds.
use Rattle.states_fix_executions.proofs.Cycles.{cycles_are_rebuilt}
use Rattle.states_fix_executions.proofs.cycle_states.cycles_are_rebuilt.Goals as goal

pub returns : goal.returns
returns c = cycles_are_rebuilt
