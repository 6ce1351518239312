-- Sequential consistency by relations: program order, reads-from, coherence order and from-read have no cycle. The last three
-- are those of SC per location.
-- Source: Shasha and Snir, 'Efficient and Correct Execution of Parallel Programs that Share Memory', 1988; in this form Alglave,
-- Maranget and Tautschnig, 'Herding Cats', 2014.
use Rattle.std.specs.Prelude.{ℕ, ◌≡◌, ◌<◌, List, [], ◌∷◌, Some}
use Rattle.program_meaning.specs.{declared.WriteAt.WriteAt, Accesses.{Access, at_name}, Executions.Execution}
use Rattle.sc_and_interleavings.specs.Relations.{ReadsFrom, CoherenceOrder, FromRead}

-- program order (po): e comes before f in one thread
pub record Precedes (threads : List (List Access)) (e f : WriteAt) : Type 0 where
  pub first : (access : Access) × (at_name threads e ≡ Some access)
  pub second : (access : Access) × (at_name threads f ≡ Some access)
  pub thread : e.thread ≡ f.thread
  pub earlier : e.access < f.access

-- a step from an access to another, by reads-from, coherence order, from-read or the part of program order that is kept
pub data StepBy (kept : WriteAt → WriteAt → Type 0) (threads : List (List Access)) (x : Execution) (e f : WriteAt) : Type 0 where
  ByPo : kept e f → StepBy kept threads x e f
  ByRf : ReadsFrom threads x e f → StepBy kept threads x e f
  ByCo : (place : ℕ) → CoherenceOrder x place e f → StepBy kept threads x e f
  ByFr : FromRead threads x e f → StepBy kept threads x e f

-- a path of such steps from e to f through the accesses of a list, a single step if the list is empty
abbrev pub IsPathBy : (WriteAt → WriteAt → Type 0) → List (List Access) → Execution → WriteAt → List WriteAt → WriteAt → Type 0
IsPathBy kept threads x e [] f = StepBy kept threads x e f
IsPathBy kept threads x e (g ∷ between) f = StepBy kept threads x e g × IsPathBy kept threads x g between f

-- no access has such a path back to itself
abbrev pub HasNoCycle : (WriteAt → WriteAt → Type 0) → List (List Access) → Execution → Type 0
HasNoCycle kept threads x = (e : WriteAt) (between : List WriteAt) → IsPathBy kept threads x e between e → ⊥

-- an execution is sequentially consistent: all of program order, with the other three, has no cycle
abbrev pub IsSequential : List (List Access) → Execution → Type 0
IsSequential threads x = HasNoCycle (Precedes threads) threads x
