-- The law `listed_are_critical` holds.
use Rattle.critical_cycles.proofs.Cuts.{listed_are_critical}
use Rattle.critical_cycles.proofs.listed.listed_are_critical.Goals as goal

pub returns : goal.returns
returns c = listed_are_critical
