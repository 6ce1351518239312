-- The law `execution_is_fixed` holds.
use Rattle.states_fix_executions.proofs.Rebuilding.{execution_is_fixed}
use Rattle.states_fix_executions.proofs.fixed.execution_is_fixed.Goals as goal

pub returns : goal.returns
returns c = execution_is_fixed
