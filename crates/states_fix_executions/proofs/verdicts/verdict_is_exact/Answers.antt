-- The law `verdict_is_exact` holds.
use Rattle.states_fix_executions.proofs.VerdictLaws.{verdict_is_exact}
use Rattle.states_fix_executions.proofs.verdicts.verdict_is_exact.Goals as goal

pub returns : goal.returns
returns c = verdict_is_exact
