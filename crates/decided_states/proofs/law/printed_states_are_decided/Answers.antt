-- The law `printed_states_are_decided` holds, by `printed_states_are_fixed`.
use Rattle.decided_states.proofs.ReadStates.{states_decided}
use Rattle.decided_states.proofs.law.printed_states_are_decided.Goals as goal

pub returns : goal.returns
returns g c = states_decided g.A.Arch.puts g.A.Arch.NAME g.A.Arch.writing c.printed_states_are_fixed.ensures
