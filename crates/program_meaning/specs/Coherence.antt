-- Coherence per location: program order at one location agrees with the coherence order. This forbids the shapes CoWW,
-- CoWR, CoRW and CoRR of the literature.
-- Source: the literature on coherence.
use Rattle.std.specs.{Prelude.{ℕ, ◌≡◌, ◌+◌, ◌-◌, ◌<◌, ◌≤◌, List, [], length, Option, Some, None, slice_get, unwrap_or}, List.position, Option.option_and_then}
use Rattle.relax_edges.specs.declared.kinds.Dir.{Dir}
use Rattle.relax_edges.specs.declared.kinds.Dir.TheVariants as dirs
use Rattle.program_meaning.specs.{declared.WriteAt.WriteAt, Accesses.{Access, at_name, reads_before}, Executions.{Execution, same_write}}

-- a position in a list, counted from 1; 0 if there is none
abbrev pub from_one : Option ℕ → ℕ
from_one None = 0
from_one (Some k) = k + 1

-- the position of a write in the coherence order of a location, from 1; 0 is that of the initial value
abbrev pub order_place : List WriteAt → Option WriteAt → ℕ
order_place order None = 0
order_place order (Some w) = from_one (position (same_write w) order)

-- the coherence order of a location
abbrev pub order_at : Execution → ℕ → List WriteAt
order_at x place = unwrap_or (slice_get x.orders place) []

-- the read of an execution that a read access makes
abbrev pub read_at : List (List Access) → Execution → WriteAt → Option (ℕ × Option WriteAt)
read_at threads x name = slice_get (unwrap_or (slice_get x.reads name.thread) []) (reads_before threads name)

-- the write that a read names; none for the initial value, or if there is no read
abbrev pub named_by : Option (ℕ × Option WriteAt) → Option WriteAt
named_by None = None
named_by (Some r) = r.1

-- the write that a read access reads, none for the initial value
abbrev pub source_at : List (List Access) → Execution → WriteAt → Option WriteAt
source_at threads x name = named_by (read_at threads x name)

-- the write whose coherence position an access has: for a write it is the write itself, for a read the write that it reads
abbrev pub placed_by : Dir → List (List Access) → Execution → WriteAt → Option WriteAt
placed_by dirs.R threads x name = source_at threads x name
placed_by dirs.W threads x name = Some name

-- the coherence position of an access: for a write its own, for a read that of what it reads
abbrev pub coherence_place : List (List Access) → Execution → WriteAt → Access → ℕ
coherence_place threads x name access = order_place (order_at x access.place) (placed_by access.dir threads x name)

-- an access may follow another at one location: a read not before it in the coherence order, a write after it
abbrev pub MayFollow : Dir → ℕ → ℕ → Type 0
MayFollow dirs.R before after = before ≤ after
MayFollow dirs.W before after = before < after

-- an execution is coherent per location: if two accesses of a thread are at one location, the later may follow the earlier
abbrev pub IsCoherent : List (List Access) → Execution → Type 0
IsCoherent threads x =
    (thread e f : ℕ) (a b : Access) → e < f →
    at_name threads (record { thread = thread; access = e }) ≡ Some a →
    at_name threads (record { thread = thread; access = f }) ≡ Some b →
    a.place ≡ b.place →
    MayFollow b.dir (coherence_place threads x (record { thread = thread; access = e }) a) (coherence_place threads x (record { thread = thread; access = f }) b)

-- the last write of a coherence order
abbrev pub last_write : List WriteAt → Option WriteAt
last_write order = slice_get order (length order - 1)

-- the value of an access, 0 if there is none
abbrev pub value_of_access : Option Access → ℕ
value_of_access None = 0
value_of_access (Some access) = access.value

-- the value of a location at the end: that of the last write of its coherence order, 0 if there is none
abbrev pub final_value : List (List Access) → Execution → ℕ → ℕ
final_value threads x place = value_of_access (option_and_then (at_name threads) (last_write (order_at x place)))
