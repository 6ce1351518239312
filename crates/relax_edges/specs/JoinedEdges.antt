-- Lists in which each edge joins the next.
-- Source: the diy part of the herdtools manual, "Candidate relaxations".
use Rattle.std.specs.Prelude.{Bool, true, ◌&&◌, List, [], ◌∷◌}
use Rattle.relax_edges.specs.{declared.edge.Edge.Edge, EdgeTable.joins_to}

-- an edge joins the first of a list, if there is one
abbrev pub joins_first : Edge → List Edge → Bool
joins_first _ [] = true
joins_first edge (next ∷ _) = joins_to edge next

-- each edge of a list joins the next one
abbrev pub is_joined : List Edge → Bool
is_joined [] = true
is_joined (edge ∷ remainder) = joins_first edge remainder && is_joined remainder
