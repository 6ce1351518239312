-- An interleaving of a small program: a thread writes x, and then another reads it.
use Rattle.sc_and_interleavings.proofs.Vocabulary.{◌≡◌, ℕ, zero, suc, List, [], ◌∷◌, Some, slice_get, take, sym, ap, arith, Outcome, WriteAt, Access, read, write, at_name, Program, HasEnded, name, IsInterleaving, IsInterleavingOf, runs_on, value_after}
use Rattle.micro_ops.specs.declared.operation.Micro.TheVariants as ops

-- the program, the values that its reads take, and the accesses that it makes
abbrev passes : Program
passes = record { places = 1; threads = record { init = []; code = ops.StoreAt 0 1 ∷ [] } ∷ record { init = []; code = ops.LoadAt 0 0 ∷ [] } ∷ [] }

abbrev reads_one : List (List ℕ)
reads_one = [] ∷ (1 ∷ []) ∷ []

abbrev made : List (List Access)
made = (write 0 1 ∷ []) ∷ (read 0 1 ∷ []) ∷ []

-- the write, and then the read
abbrev in_turn : List WriteAt
in_turn = name 0 0 ∷ name 1 0 ∷ []

named : (k : ℕ) (e : WriteAt) → slice_get in_turn k ≡ Some e → (a : Access) × (at_name made e ≡ Some a)
named zero e h = let s : name 0 0 ≡ e = cc h in (write 0 1, ap (at_name made) (sym s))
named (suc zero) e h = let s : name 1 0 ≡ e = cc h in (read 0 1, ap (at_name made) (sym s))
named (suc (suc k)) e h = cc h

each : (thread access : ℕ) (a : Access) → at_name made (name thread access) ≡ Some a → (k : ℕ) × (slice_get in_turn k ≡ Some (name thread access))
each thread access a h = grind arith

threads_are : (k : ℕ) (e : WriteAt) → slice_get in_turn k ≡ Some e → (e.thread ≡ k) × (e.access ≡ 0)
threads_are k e h = grind arith

both_ended : (k : ℕ) (run : Outcome) → slice_get (runs_on passes.threads reads_one) k ≡ Some run → HasEnded run
both_ended k run h = grind arith

in_turn-interleaves : IsInterleaving made in_turn
in_turn-interleaves = grind (arith, named, each, threads_are)

-- no access has a place but x
at_x : (k place value : ℕ) (e : WriteAt) → slice_get in_turn k ≡ Some e → at_name made e ≡ Some (read place value)
    → value ≡ value_after made place (take k in_turn)
at_x k place value e h a = grind arith

-- it is an interleaving of the program, whose read takes 1
in_turn-is : IsInterleavingOf passes reads_one in_turn
in_turn-is = record { ended = both_ended; interleaves = in_turn-interleaves; gives = at_x }
