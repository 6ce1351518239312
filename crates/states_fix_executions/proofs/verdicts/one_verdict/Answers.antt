-- The law `one_verdict` holds.
use Rattle.states_fix_executions.proofs.VerdictLaws.{one_verdict}
use Rattle.states_fix_executions.proofs.verdicts.one_verdict.Goals as goal

pub returns : goal.returns
returns c = one_verdict
