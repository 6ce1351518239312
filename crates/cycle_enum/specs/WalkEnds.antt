-- Where the search of a walk goes on.
-- Source: own.
use Rattle.std.specs.Prelude.{◌≡◌, ◌⊎◌, ⊤, Option, Some, None, List, []}
use Rattle.relax_edges.specs.declared.edge.Edge.{Edge}

-- the search of a walk is at the last cycle, if there is one, or at the empty list
abbrev pub IsAtLast : List Edge → Option (List Edge) → Type 0
IsAtLast list None = ⊤
IsAtLast list (Some last) = (list ≡ []) ⊎ (list ≡ last)
