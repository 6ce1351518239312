-- The law `sequential_or_critical` holds.
use Rattle.critical_cycles.proofs.CriticalLaws.{sequential_or_critical}
use Rattle.critical_cycles.proofs.critical.sequential_or_critical.Goals as goal

pub returns : goal.returns
returns c = sequential_or_critical
