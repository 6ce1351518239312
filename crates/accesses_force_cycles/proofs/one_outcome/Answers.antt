-- The law `one_outcome` holds.
use Rattle.accesses_force_cycles.proofs.Laws.{one_outcome_law}
use Rattle.accesses_force_cycles.proofs.one_outcome.Goals as goal

pub returns : goal.returns
returns c = one_outcome_law
