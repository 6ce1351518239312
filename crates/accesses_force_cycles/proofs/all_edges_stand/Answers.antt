-- The law `all_edges_stand` holds.
use Rattle.accesses_force_cycles.proofs.Laws.{all_edges_stand_law}
use Rattle.accesses_force_cycles.proofs.all_edges_stand.Goals as goal

pub returns : goal.returns
returns c = all_edges_stand_law
