-- The law `rebuilt_decides` holds.
use Rattle.states_fix_executions.proofs.Rebuilding.{rebuilt_decides}
use Rattle.states_fix_executions.proofs.fixed.rebuilt_decides.Goals as goal

pub returns : goal.returns
returns c = rebuilt_decides
