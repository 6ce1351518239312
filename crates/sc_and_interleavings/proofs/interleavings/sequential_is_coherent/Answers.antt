-- The law `sequential_is_coherent` holds.
use Rattle.sc_and_interleavings.proofs.InterleavingLaws.{sequential_is_coherent}
use Rattle.sc_and_interleavings.proofs.interleavings.sequential_is_coherent.Goals as goal

pub returns : goal.returns
returns c = sequential_is_coherent
