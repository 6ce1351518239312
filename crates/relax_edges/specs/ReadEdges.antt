-- Edges that are read one after another.
-- Source: own.
use Rattle.std.specs.Prelude.{Option, Some, None, List, ◌∷◌}
use Rattle.relax_edges.specs.declared.edge.Edge.{Edge}

-- an edge before some others, if both are given
abbrev pub before_edges : Option Edge → Option (List Edge) → Option (List Edge)
before_edges (Some edge) (Some edges) = Some (edge ∷ edges)
before_edges (Some edge) None = None
before_edges None _ = None
