-- The four relations between the accesses of an execution, each access by its name, and their cycles.
-- Source: SC per location ('uniproc') of Alglave, Maranget and Tautschnig, 'Herding Cats', 2014: program order at one location,
-- reads-from, coherence order and from-read together have no cycle. The authors say that this forbids the five shapes CoWW,
-- CoRW1, CoRW2, CoWR and CoRR.
use Rattle.std.specs.Prelude.{ℕ, ◌≡◌, ◌<◌, List, [], ◌∷◌, Option, Some, None, slice_get}
use Rattle.program_meaning.specs.{declared.WriteAt.WriteAt, Accesses.{Access, read, write, at_name}, Executions.Execution, Coherence.{order_at, source_at}}

-- a write to a location, by its name
abbrev pub IsWriteTo : List (List Access) → ℕ → WriteAt → Type 0
IsWriteTo threads place w = (value : ℕ) × (at_name threads w ≡ Some (write place value))

-- a read of a location, by its name
abbrev pub IsReadOf : List (List Access) → ℕ → WriteAt → Type 0
IsReadOf threads place r = (value : ℕ) × (at_name threads r ≡ Some (read place value))

-- an access of a location, by its name
abbrev pub IsAccessOf : List (List Access) → ℕ → WriteAt → Type 0
IsAccessOf threads place e = (access : Access) × (at_name threads e ≡ Some access) × (access.place ≡ place)

-- program order at one location (po-loc): e comes before f in one thread
pub record ProgramOrder (threads : List (List Access)) (e f : WriteAt) : Type 0 where
  pub place : ℕ
  pub first : IsAccessOf threads place e
  pub second : IsAccessOf threads place f
  pub thread : e.thread ≡ f.thread
  pub earlier : e.access < f.access

-- reads-from (rf): r reads w
pub record ReadsFrom (threads : List (List Access)) (x : Execution) (w r : WriteAt) : Type 0 where
  pub place : ℕ
  pub reads : IsReadOf threads place r
  pub source : source_at threads x r ≡ Some w

-- coherence order (co): w comes before v in the list of a location
pub record CoherenceOrder (x : Execution) (place : ℕ) (w v : WriteAt) : Type 0 where
  pub earlier : ℕ
  pub later : ℕ
  pub first : slice_get (order_at x place) earlier ≡ Some w
  pub second : slice_get (order_at x place) later ≡ Some v
  pub before : earlier < later

-- what can be read at a location comes before a write: the initial value before each write to the location, a write before
-- those that follow it in the coherence order
abbrev pub IsBefore : List (List Access) → Execution → ℕ → Option WriteAt → WriteAt → Type 0
IsBefore threads x place None w = IsWriteTo threads place w
IsBefore threads x place (Some v) w = CoherenceOrder x place v w

-- from-read (fr): what r reads comes before w in the coherence order of the location
pub record FromRead (threads : List (List Access)) (x : Execution) (r w : WriteAt) : Type 0 where
  pub place : ℕ
  pub reads : IsReadOf threads place r
  pub before : IsBefore threads x place (source_at threads x r) w

-- a step from an access to another, by one of the four relations
pub data Step (threads : List (List Access)) (x : Execution) (e f : WriteAt) : Type 0 where
  Po : ProgramOrder threads e f → Step threads x e f
  Rf : ReadsFrom threads x e f → Step threads x e f
  Co : (place : ℕ) → CoherenceOrder x place e f → Step threads x e f
  Fr : FromRead threads x e f → Step threads x e f

-- a path of steps from e to f through the accesses of a list, a single step if the list is empty
abbrev pub IsPathOfSteps : List (List Access) → Execution → WriteAt → List WriteAt → WriteAt → Type 0
IsPathOfSteps threads x e [] f = Step threads x e f
IsPathOfSteps threads x e (g ∷ between) f = Step threads x e g × IsPathOfSteps threads x g between f

-- SC per location: no access has a path of steps back to itself
abbrev pub IsScPerLocation : List (List Access) → Execution → Type 0
IsScPerLocation threads x = (e : WriteAt) (between : List WriteAt) → IsPathOfSteps threads x e between e → ⊥
