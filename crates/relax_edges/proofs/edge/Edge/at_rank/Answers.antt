-- The edge at a place of the list of all edges has that place as its rank.
use Rattle.relax_edges.proofs.EdgeList.{rank_at}
use Rattle.relax_edges.proofs.edge.Edge.at_rank.Goals as goal

pub returns : goal.returns
returns c = rw (c.edges.ensures.edges, c.from.ensures) (rank_at c.args.k _ c.requires)
