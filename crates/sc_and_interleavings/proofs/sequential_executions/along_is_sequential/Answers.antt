-- The law `along_is_sequential` holds.
use Rattle.sc_and_interleavings.proofs.SequentialLaws.{along_is_sequential}
use Rattle.sc_and_interleavings.proofs.sequential_executions.along_is_sequential.Goals as goal

pub returns : goal.returns
returns c = along_is_sequential
