-- The law `sequential_is_decided` holds.
use Rattle.states_fix_executions.proofs.Ordering.{sequential_is_decided}
use Rattle.states_fix_executions.proofs.verdicts.sequential_is_decided.Goals as goal

pub returns : goal.returns
returns c = sequential_is_decided
