-- The edges of all rows are all edges, in order: the checker computes it.
use Rattle.std.proofs.Common.{refl}
use Rattle.relax_edges.specs.AllEdges.{edges_in_order}
use Rattle.relax_edges.proofs.table.edges.Goals as goal

pub returns-clause-edges : goal.returns-clause-edges
unfolding edges_in_order
returns-clause-edges c = rw c.as_flattened.ensures.value refl

pub returns-clause-count : goal.returns-clause-count
returns-clause-count c = rw c.as_flattened.ensures.value refl
