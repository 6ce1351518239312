-- The first edge is put to its place, and then the others.
use Rattle.cycle_enum.proofs.SetPlaces.{edges_only}
use Rattle.cycle_enum.proofs.places.+put_edges.Goals as goal

pub returns-in-len1-up-clause-only : goal.returns-in-len1-up-clause-only
returns-in-len1-up-clause-only t c =
    edges_only c.args.edges.now _ c.args.position c.args.relax c.args.rows.now c.put_edge.new.rows c.put_edges.new.rows c.in-len1-up.len_at_least
    (rw c.rank.ensures.value at c.put_edge.ensures.only) c.put_edges.ensures.only
