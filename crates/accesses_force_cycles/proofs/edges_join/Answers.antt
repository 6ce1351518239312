-- The law `edges_join` holds.
use Rattle.accesses_force_cycles.proofs.Laws.{edges_join_law}
use Rattle.accesses_force_cycles.proofs.edges_join.Goals as goal

pub returns : goal.returns
returns c = edges_join_law
