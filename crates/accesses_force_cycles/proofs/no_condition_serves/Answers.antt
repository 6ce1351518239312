-- The law `no_condition_serves` holds.
use Rattle.accesses_force_cycles.proofs.Laws.{no_condition_serves_law}
use Rattle.accesses_force_cycles.proofs.no_condition_serves.Goals as goal

pub returns : goal.returns
returns c = no_condition_serves_law
