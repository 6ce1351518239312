-- The paths that begin with some edges and continue with one edge of each list, and how they are kept.
use Rattle.std.specs.{Prelude.{◌≡◌, Bool, not, Result, Ok, Err, MatchResult, List, [], ◌∷◌, ◌++◌, filter, map}, List.flat_map}
use Rattle.relax_edges.specs.{declared.edge.Edge.Edge, JoinedEdges.is_joined}
use Rattle.edges_from_text.specs.{RelaxText.is_empty, Relaxations.path_choices, RelaxKept.{keep_all, at_most_64}}

-- the paths that begin with some edges and continue with one edge of each list
unfoldable pub paths_after : List Edge → List (List Edge) → List (List Edge)
paths_after prefix lists = filter is_joined (map (λ path. prefix ++ path) (path_choices lists))

-- the paths that begin with some edges, then have one of the given edges, and continue with one edge of each list
unfoldable pub paths_by : List Edge → List (List Edge) → List Edge → List (List Edge)
paths_by prefix lists edges = flat_map (λ edge. paths_after (prefix ++ edge ∷ []) lists) edges

-- some paths are kept, and then there are at most 64; and whether there is a path to keep
pub record KeepsPaths (old paths new : List (List Edge)) (some : Bool) : Type 0 where
  pub kept : at_most_64 (keep_all old paths) ≡ Ok new
  pub found : some ≡ not (is_empty paths)

-- a call agrees with what reading gives: the new list is what is kept, or the error is the one with which the text is refused
abbrev pub KeepsRelaxations : {A E : Type 0} → Result (List (List Edge)) E → List (List Edge) → Result A E → Type 0
KeepsRelaxations read new answer = MatchResult answer (λ _. read ≡ Ok new) (λ error. read ≡ Err error)
