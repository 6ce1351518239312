-- The law `only_the_intended` holds.
use Rattle.accesses_force_cycles.proofs.Laws.{only_the_intended_law}
use Rattle.accesses_force_cycles.proofs.only_the_intended.Goals as goal

pub returns : goal.returns
returns c = only_the_intended_law
