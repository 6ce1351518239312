-- The law `printed_states_are_open` holds, by `printed_states_fix_reads`.
use Rattle.decided_states.proofs.ReadStates.{states_open}
use Rattle.decided_states.proofs.law.printed_states_are_open.Goals as goal

pub returns : goal.returns
returns g c = states_open g.A.Arch.puts g.A.Arch.NAME g.A.Arch.writing c.printed_states_fix_reads.ensures
