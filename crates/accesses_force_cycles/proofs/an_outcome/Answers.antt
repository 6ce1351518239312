-- The law `an_outcome` holds.
use Rattle.accesses_force_cycles.proofs.Laws.{an_outcome_law}
use Rattle.accesses_force_cycles.proofs.an_outcome.Goals as goal

pub returns : goal.returns
returns c = an_outcome_law
