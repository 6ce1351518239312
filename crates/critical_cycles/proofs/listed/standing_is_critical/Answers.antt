-- The law `standing_is_critical` holds.
use Rattle.critical_cycles.proofs.Standing.{standing_is_critical}
use Rattle.critical_cycles.proofs.listed.standing_is_critical.Goals as goal

pub returns : goal.returns
returns c = standing_is_critical
