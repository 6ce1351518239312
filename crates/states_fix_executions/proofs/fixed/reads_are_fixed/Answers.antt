-- The law `reads_are_fixed` holds.
use Rattle.states_fix_executions.proofs.Rebuilding.{reads_are_fixed}
use Rattle.states_fix_executions.proofs.fixed.reads_are_fixed.Goals as goal

pub returns : goal.returns
returns c = reads_are_fixed
