-- Bounds with the first of some edges, and then with one of the others, are bounds with each.
use Rattle.cycle_enum.proofs.Ending.{with_edges}
use Rattle.cycle_enum.proofs.endings.Row.+lower_by_edges.Goals as goal

pub returns-in-len1-up-clause-bounds : goal.returns-in-len1-up-clause-bounds
returns-in-len1-up-clause-bounds t c =
    with_edges c.args.self.now c.lower_by_edge.new.row c.lower_by_edges.new.row c.args.edges.now _ c.in-len1-up.len_at_least
    c.lower_by_edge.ensures.bounds c.lower_by_edges.ensures.below c.lower_by_edges.ensures.bounds
