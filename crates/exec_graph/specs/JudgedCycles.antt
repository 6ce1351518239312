-- The edges of a cycle, each with whether it stands in an execution.
-- Source: own.
use Rattle.std.specs.Prelude.{ℕ, ◌≡◌, ◌↔◌, Bool, IsTrue, List, [], map, slice_get, Option, Some, None}
use Rattle.relax_edges.specs.declared.edge.Edge.{Edge}
use Rattle.program_meaning.specs.{Executions.Execution, Programs.Program, Standing.EdgeStands}

-- the edges of a cycle, in order, number i with yes exactly when edge i stands in an execution of a program
pub record AreJudged (es : List Edge) (p : Program) (x : Execution) (judged : List (Edge × Bool)) : Type 0 where
  pub edges : map (λ j. j.0) judged ≡ es
  pub each : (i : ℕ) (j : Edge × Bool) → slice_get judged i ≡ Some j → (IsTrue j.1 ↔ EdgeStands es p x i)

-- the edges of the cycle are judged in this way; if there is no cycle, there are no edges
abbrev pub JudgesEdges : Option (List Edge) → Program → Execution → List (Edge × Bool) → Type 0
JudgesEdges None p x judged = judged ≡ []
JudgesEdges (Some es) p x judged = AreJudged es p x judged

-- these are the edges of a cycle, each with yes or no; if there is no cycle, there are none
abbrev pub AreEdgesOf : Option (List Edge) → List (Edge × Bool) → Type 0
AreEdgesOf None judged = judged ≡ []
AreEdgesOf (Some es) judged = map (λ j. j.0) judged ≡ es
