-- The law `the_intended_meets` holds.
use Rattle.accesses_force_cycles.proofs.Laws.{the_intended_meets_law}
use Rattle.accesses_force_cycles.proofs.the_intended_meets.Goals as goal

pub returns : goal.returns
returns c = the_intended_meets_law
