-- The law `sequential_goes_along` holds.
use Rattle.sc_and_interleavings.proofs.SequentialLaws.{sequential_goes_along}
use Rattle.sc_and_interleavings.proofs.sequential_executions.sequential_goes_along.Goals as goal

pub returns : goal.returns
returns c = sequential_goes_along
