-- The words of all rows are those of all edges, in order: the checker computes it.
use Rattle.std.proofs.Common.{refl}
use Rattle.relax_edges.specs.AllEdges.{edges_in_order}
use Rattle.relax_edges.proofs.word.words.Goals as goal

pub returns-clause-words : goal.returns-clause-words
unfolding edges_in_order
returns-clause-words c = rw c.as_flattened.ensures.value refl

pub returns-clause-count : goal.returns-clause-count
returns-clause-count c = rw c.as_flattened.ensures.value refl
