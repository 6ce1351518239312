-- The law `interleaved_is_sequential` holds.
use Rattle.printed_states.proofs.Interleaved.{interleaved_is_sequential}
use Rattle.printed_states.proofs.law.interleaved_is_sequential.Goals as goal

pub returns : goal.returns
returns c = interleaved_is_sequential
