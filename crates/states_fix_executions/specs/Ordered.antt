-- Whether the accesses of an execution can be put into an order that program order, reads-from, coherence order and from-read
-- allow: an access before which no other has to come is taken away, again and again, and at last nothing is left.
-- Source: own; the usual way to sort what is ordered in part.
use Rattle.std.specs.{Prelude.{ℕ, zero, suc, ◌+◌, ◌==◌, ◌&&◌, ◌||◌, Bool, not, cond, nat_lt, List, length, Option, Some, None}, List.{list_all, position_from, remove}}
use Rattle.program_meaning.specs.{declared.seen.SeenAccess.SeenAccess, Accesses.is_read}

-- no element of a list has to come before this one
abbrev pub is_free : {X : Type 0} → (X → X → Bool) → List X → X → Bool
is_free before left x = list_all (λ y. not (before y x)) left

-- the element at a number is taken away, and this holds of the others; if there is no number, then nothing was left
abbrev pub taken_away : {X : Type 0} → (List X → Bool) → List X → Option ℕ → Bool
taken_away more left None = length left == 0
taken_away more left (Some k) = more (remove left k)

-- the first element that is free is taken away, at most n times: then nothing is left
abbrev pub empties : {X : Type 0} → (X → X → Bool) → ℕ → List X → Bool
empties before zero left = length left == 0
empties before (suc n) left = taken_away (empties before n) left (position_from (is_free before left) 0 left)

-- twice the coherence position of an access, and one more for a read: of two accesses of a location, the one with the lesser key
-- comes first in coherence order, reads-from or from-read, or by two of them
abbrev pub key_of : SeenAccess → ℕ
key_of e = e.order + e.order + cond (is_read e.access) 1 0

-- an access has to come before another: it is earlier in its thread, or at the same location with the lesser key
abbrev pub has_to_come : SeenAccess → SeenAccess → Bool
has_to_come e f = ((e.thread == f.thread) && nat_lt e.number f.number) || ((e.access.place == f.access.place) && nat_lt (key_of e) (key_of f))

-- accesses can be put into such an order
abbrev pub can_be_ordered : List SeenAccess → Bool
can_be_ordered seen = empties has_to_come (length seen) seen
