-- What names name: one write has one name, and what is found under a name is in the name's thread.
use Rattle.std.proofs.{Common.{◌≡◌, ℕ, ◌==◌, true, List, Option, Some, None, slice_get, refl, ap, ◌∙◌}, lemmas.Bool.{and_parts, and_from, eqb-true, eq-eqb}}
use Rattle.program_meaning.specs.{declared.WriteAt.WriteAt, Accesses.{got_from, at_name}, Executions.same_write, Deciding.name}

-- a write has the name of itself
pub same_write-refl : (w : WriteAt) → same_write w w ≡ true
same_write-refl w = and_from (w.thread == w.thread) (w.access == w.access) (eq-eqb w.thread w.thread refl) (eq-eqb w.access w.access refl)

-- writes that pass the test have one name
pub same_write-true : (w v : WriteAt) → same_write w v ≡ true → w ≡ v
same_write-true w v h =
    let p = and_parts (w.thread == v.thread) (w.access == v.access) h in
    let t : w.thread ≡ v.thread = eqb-true w.thread v.thread p.0 in
    let a : w.access ≡ v.access = eqb-true w.access v.access p.1 in
    λ i. record { thread = t i; access = a i }

-- an element of a list that may be missing
pub record GotFrom {X : Type 0} (o : Option (List X)) (k : ℕ) (x : X) : Type 0 where
  pub list : List X
  pub list_is : o ≡ Some list
  pub got : slice_get list k ≡ Some x

-- what is got from a list that may be missing is an element of the list
pub got_from_list : {X : Type 0} (o : Option (List X)) (k : ℕ) (x : X) → got_from o k ≡ Some x → GotFrom o k x
got_from_list None k x h = cc
got_from_list (Some xs) k x h = record { list = xs; list_is = refl; got = h }

-- what is found under a name is in the name's thread
pub in_thread : {X : Type 0} (threads : List (List X)) (w : WriteAt) (x : X) → at_name threads w ≡ Some x → GotFrom (slice_get threads w.thread) w.access x
in_thread threads w x h = got_from_list (slice_get threads w.thread) w.access x h

-- an element of a thread is found under its name
pub at_name_of : {X : Type 0} (threads : List (List X)) (thread i : ℕ) (xs : List X) (x : X) → slice_get threads thread ≡ Some xs → slice_get xs i ≡ Some x → at_name threads (name thread i) ≡ Some x
at_name_of threads thread i xs x e h = ap (λ o. got_from o i) e ∙ h
