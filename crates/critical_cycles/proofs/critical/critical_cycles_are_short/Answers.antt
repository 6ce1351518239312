-- The law `critical_cycles_are_short` holds.
use Rattle.critical_cycles.proofs.CriticalLaws.{critical_cycles_are_short}
use Rattle.critical_cycles.proofs.critical.critical_cycles_are_short.Goals as goal

pub returns : goal.returns
returns c = critical_cycles_are_short
