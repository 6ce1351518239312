-- The law `looking_decides` holds.
use Rattle.states_fix_executions.proofs.VerdictLaws.{looking_decides}
use Rattle.states_fix_executions.proofs.fixed.looking_decides.Goals as goal

pub returns : goal.returns
returns c = looking_decides
