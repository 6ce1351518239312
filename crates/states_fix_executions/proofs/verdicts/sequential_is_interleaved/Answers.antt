-- The law `sequential_is_interleaved` holds.
use Rattle.states_fix_executions.proofs.Interleaved.{sequential_is_interleaved}
use Rattle.states_fix_executions.proofs.verdicts.sequential_is_interleaved.Goals as goal

pub returns : goal.returns
returns c = sequential_is_interleaved
