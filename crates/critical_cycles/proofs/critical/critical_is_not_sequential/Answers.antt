-- The law `critical_is_not_sequential` holds.
use Rattle.critical_cycles.proofs.CriticalLaws.{critical_is_not_sequential}
use Rattle.critical_cycles.proofs.critical.critical_is_not_sequential.Goals as goal

pub returns : goal.returns
returns c = critical_is_not_sequential
