-- Executions: what each read reads, and in which order the writes of each location come.
-- Source: the usual candidate executions of axiomatic memory models (reads-from and coherence order as relations given).
use Rattle.std.specs.Prelude.{ℕ, ◌≡◌, ◌==◌, ◌&&◌, Bool, List, [], ◌∷◌, length, filter, Option, Some, None, slice_get}
use Rattle.program_meaning.specs.{declared.WriteAt.WriteAt, Accesses.{Access, write, is_read, at_name}}

-- an execution: for each thread its reads in program order, each a value and the write read, none for the initial
-- value; for each location its writes in coherence order
pub record Execution : Type 0 where
  pub reads : List (List (ℕ × Option WriteAt))
  pub orders : List (List WriteAt)

-- two names name the same write
abbrev pub same_write : WriteAt → WriteAt → Bool
same_write w v = (w.thread == v.thread) && (w.access == v.access)

-- a read access can read the initial value, which is 0, or a write of its value to its location
abbrev pub CanRead : List (List Access) → Access → Option WriteAt → Type 0
CanRead threads access None = access.value ≡ 0
CanRead threads access (Some w) = at_name threads w ≡ Some (write access.place access.value)

-- the reads of an execution are those of a thread's read accesses, in order, and each can read what it names
abbrev pub AreReadsOf : List (List Access) → List Access → List (ℕ × Option WriteAt) → Type 0
AreReadsOf threads [] [] = Unit {0}
AreReadsOf threads [] (_ ∷ _) = ⊥
AreReadsOf threads (_ ∷ _) [] = ⊥
AreReadsOf threads (access ∷ accesses) (r ∷ reads) =
    (r.0 ≡ access.value) × CanRead threads access r.1 × AreReadsOf threads accesses reads

-- a list holds each write to the location, once, and nothing else
pub record IsOrderOf (threads : List (List Access)) (place : ℕ) (order : List WriteAt) : Type 0 where
  pub writes : (k : ℕ) (w : WriteAt) → slice_get order k ≡ Some w → (v : ℕ) × (at_name threads w ≡ Some (write place v))
  pub each : (w : WriteAt) (v : ℕ) → at_name threads w ≡ Some (write place v) → (k : ℕ) × (slice_get order k ≡ Some w)
  pub once : (j k : ℕ) (w : WriteAt) → slice_get order j ≡ Some w → slice_get order k ≡ Some w → j ≡ k

-- an execution of threads that make these accesses, over this many locations
pub record IsExecutionOf (threads : List (List Access)) (places : ℕ) (x : Execution) : Type 0 where
  pub read_lists : length x.reads ≡ length threads
  pub write_lists : length x.orders ≡ places
  pub reads : (k : ℕ) (accesses : List Access) (reads : List (ℕ × Option WriteAt)) → slice_get threads k ≡ Some accesses → slice_get x.reads k ≡ Some reads → AreReadsOf threads (filter is_read accesses) reads
  pub orders : (place : ℕ) (order : List WriteAt) → slice_get x.orders place ≡ Some order → IsOrderOf threads place order
