-- The law `only_the_rebuilt` holds.
use Rattle.states_fix_executions.proofs.Rebuilding.{only_the_rebuilt}
use Rattle.states_fix_executions.proofs.fixed.only_the_rebuilt.Goals as goal

pub returns : goal.returns
returns c = only_the_rebuilt
