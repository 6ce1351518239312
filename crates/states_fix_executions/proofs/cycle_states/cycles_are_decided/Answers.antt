-- The law `cycles_are_decided` holds.
use Rattle.states_fix_executions.proofs.Cycles.{cycles_are_decided}
use Rattle.states_fix_executions.proofs.cycle_states.cycles_are_decided.Goals as goal

pub returns : goal.returns
returns c = cycles_are_decided
