-- The edges that a word names, by its last two bytes.
use Rattle.std.specs.{Prelude.{ℕ, ◌==◌, cond, List, [], ◌∷◌, ◌++◌, codes}, List.{flat_map, filter_map}}
use Rattle.relax_edges.specs.{declared.edge.Edge.Edge, Spelling.edge_of}

-- a star means `R` and `W`, any other byte itself
abbrev pub star_choices : ℕ → List ℕ
star_choices byte = cond (byte == 42) (codes "RW") (byte ∷ [])

-- the edges that words with this prefix name, with this byte before the last and each choice of the last byte
unfoldable pub edges_by_last : List ℕ → ℕ → ℕ → List Edge
edges_by_last prefix before last = filter_map (λ choice. edge_of (prefix ++ before ∷ choice ∷ [])) (star_choices last)

-- the edges that words with this prefix name, with each choice of the last two bytes
unfoldable pub edges_by_end : List ℕ → ℕ → ℕ → List Edge
edges_by_end prefix before last = flat_map (λ choice. edges_by_last prefix choice last) (star_choices before)
