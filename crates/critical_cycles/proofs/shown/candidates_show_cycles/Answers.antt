-- The law `candidates_show_cycles` holds.
use Rattle.critical_cycles.proofs.CriticalLaws.{candidates_show_cycles}
use Rattle.critical_cycles.proofs.shown.candidates_show_cycles.Goals as goal

pub returns : goal.returns
returns c = candidates_show_cycles
