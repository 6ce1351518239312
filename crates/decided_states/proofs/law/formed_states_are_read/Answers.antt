-- The law `formed_states_are_read` holds.
use Rattle.decided_states.proofs.ReadStates.{states_read}
use Rattle.decided_states.proofs.law.formed_states_are_read.Goals as goal

pub returns : goal.returns
returns g = states_read
