-- Runs of internal edges, one after another: such a run joins accesses of one thread.
-- Source: own.
use Rattle.std.specs.{Prelude.{◌≡◌, ℕ, Bool, false, ◌+◌, ◌&&◌, nat_lt, if◌then◌else◌, Option, Some, None, List, [], ◌∷◌, ◌++◌, length}, List.AllByRecursion}
use Rattle.relax_edges.specs.{declared.edge.Edge.Edge, EdgeTable.is_external}

-- a list has this many internal edges one after another
pub record HasRun (many : ℕ) (edges : List Edge) : Type 0 where
  pub prefix : List Edge
  pub run : List Edge
  pub back : List Edge
  pub parts : edges ≡ prefix ++ (run ++ back)
  pub long : length run ≡ many
  pub internal : AllByRecursion (λ edge. is_external edge ≡ false) run

-- a list has as many internal edges one after another as a thread may have accesses, so that one has more; without a limit, never
abbrev pub HasLongRun : Option ℕ → List Edge → Type 0
HasLongRun None edges = ⊥
HasLongRun (Some most) edges = HasRun most edges

-- the length of the run of internal edges that ends with this edge, if a run of length `run` ends before it
abbrev pub next_run : ℕ → Edge → ℕ
next_run run edge = if is_external edge then 0 else run + 1

-- the length of the run of internal edges at the end of a list, if a run of length `run` ends before the list
abbrev pub run_after : ℕ → List Edge → ℕ
run_after run [] = run
run_after run (edge ∷ edges) = run_after (next_run run edge) edges

-- each run of internal edges in a list is shorter than this, if a run of length `run` ends before the list
abbrev pub stays_below : ℕ → ℕ → List Edge → Bool
stays_below many run [] = nat_lt run many
stays_below many run (edge ∷ edges) = nat_lt run many && stays_below many (next_run run edge) edges
