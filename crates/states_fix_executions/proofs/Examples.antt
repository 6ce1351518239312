-- States of small programs, each with its verdict, computed.
use Rattle.states_fix_executions.proofs.Vocabulary.{◌≡◌, ℕ, List, [], ◌∷◌, Some, None, refl, Program, Thread, verdict_of, verdict_looked, rebuilt, FinalState, Impossible, Incoherent, Relaxed, Sequential, Verdict}
use Rattle.program_meaning.specs.Deciding.{are_distinct, are_reads}
use Rattle.micro_ops.specs.declared.operation.Micro.{Micro}
use Rattle.micro_ops.specs.declared.operation.Micro.TheVariants as ops

-- a thread without first registers
abbrev runs : List Micro → Thread
runs code = record { init = []; code = code }

-- a state that gives no final values
abbrev reading : List (List ℕ) → FinalState
reading loads = record { loads = loads; ends = λ place. None }

-- a state of a program has a verdict
abbrev IsSaid : Program → FinalState → Verdict → Type 0
IsSaid p s v = verdict_of p s ≡ v

-- and the rebuilt execution alone says the same
abbrev IsLooked : Program → FinalState → Verdict → Type 0
IsLooked p s v = verdict_looked p s (rebuilt p s) ≡ v

-- SB: each of two threads writes one location and reads the other
abbrev SB : Program
SB = record { places = 2; threads = runs (ops.StoreAt 0 1 ∷ ops.LoadAt 0 1 ∷ []) ∷ runs (ops.StoreAt 1 1 ∷ ops.LoadAt 0 0 ∷ []) ∷ [] }

SB-both : IsSaid SB (reading ((1 ∷ []) ∷ (1 ∷ []) ∷ [])) Sequential
unfolding are_reads are_distinct
SB-both = refl

SB-neither : IsSaid SB (reading ((0 ∷ []) ∷ (0 ∷ []) ∷ [])) Relaxed
unfolding are_reads are_distinct
SB-neither = refl

SB-other_value : IsSaid SB (reading ((2 ∷ []) ∷ (0 ∷ []) ∷ [])) Impossible
unfolding are_reads are_distinct
SB-other_value = refl

-- a value more than a thread has loads. The rebuilt execution, which then reads nothing, is a candidate, but doesn't end so
SB-too_many : IsSaid SB (reading ((1 ∷ 1 ∷ []) ∷ (1 ∷ []) ∷ [])) Impossible
unfolding are_reads are_distinct
SB-too_many = refl

SB-looked : IsLooked SB (reading ((0 ∷ []) ∷ (0 ∷ []) ∷ [])) Relaxed
unfolding are_reads are_distinct
SB-looked = refl

-- CoRR: a thread writes x, and another reads it twice
abbrev CoRR : Program
CoRR = record { places = 1; threads = runs (ops.StoreAt 0 1 ∷ []) ∷ runs (ops.LoadAt 0 0 ∷ ops.LoadAt 1 0 ∷ []) ∷ [] }

CoRR-in_turn : IsSaid CoRR (reading ([] ∷ (0 ∷ 1 ∷ []) ∷ [])) Sequential
unfolding are_reads are_distinct
CoRR-in_turn = refl

CoRR-out_of_turn : IsSaid CoRR (reading ([] ∷ (1 ∷ 0 ∷ []) ∷ [])) Incoherent
unfolding are_reads are_distinct
CoRR-out_of_turn = refl

CoRR-looked : IsLooked CoRR (reading ([] ∷ (1 ∷ 0 ∷ []) ∷ [])) Incoherent
unfolding are_reads are_distinct
CoRR-looked = refl

-- CoWR: a thread writes x and reads it, and another writes x
abbrev CoWR : Program
CoWR = record { places = 1; threads = runs (ops.StoreAt 0 1 ∷ ops.LoadAt 0 0 ∷ []) ∷ runs (ops.StoreAt 0 2 ∷ []) ∷ [] }

-- it reads what the other wrote, and its own write is the last
CoWR-own_last : IsSaid CoWR (record { loads = (2 ∷ []) ∷ [] ∷ []; ends = λ place. Some 1 }) Incoherent
unfolding are_reads are_distinct
CoWR-own_last = refl

CoWR-other_last : IsSaid CoWR (record { loads = (2 ∷ []) ∷ [] ∷ []; ends = λ place. Some 2 }) Sequential
unfolding are_reads are_distinct
CoWR-other_last = refl

CoWR-looked : IsLooked CoWR (record { loads = (2 ∷ []) ∷ [] ∷ []; ends = λ place. Some 1 }) Incoherent
unfolding are_reads are_distinct
CoWR-looked = refl

-- without the final value both orders end so
CoWR-unsettled : IsSaid CoWR (reading ((2 ∷ []) ∷ [] ∷ [])) Sequential
unfolding are_reads are_distinct
CoWR-unsettled = refl

-- 2+2W: two threads write two locations, in two orders
abbrev TwoTwoW : Program
TwoTwoW = record { places = 2; threads = runs (ops.StoreAt 0 2 ∷ ops.StoreAt 1 1 ∷ []) ∷ runs (ops.StoreAt 1 2 ∷ ops.StoreAt 0 1 ∷ []) ∷ [] }

TwoTwoW-first_last : IsSaid TwoTwoW (record { loads = [] ∷ [] ∷ []; ends = λ place. Some 2 }) Relaxed
unfolding are_reads are_distinct
TwoTwoW-first_last = refl

TwoTwoW-second_last : IsSaid TwoTwoW (record { loads = [] ∷ [] ∷ []; ends = λ place. Some 1 }) Sequential
unfolding are_reads are_distinct
TwoTwoW-second_last = refl

-- three writes to a location, and a thread that reads two of them in an order that the last write excludes
abbrev ThreeWrites : Program
ThreeWrites = record {
  places = 1;
  threads = runs (ops.StoreAt 0 1 ∷ ops.StoreAt 0 2 ∷ []) ∷ runs (ops.StoreAt 0 3 ∷ []) ∷ runs (ops.LoadAt 0 0 ∷ ops.LoadAt 1 0 ∷ []) ∷ [];
}

ThreeWrites-last_first : IsSaid ThreeWrites (record { loads = [] ∷ [] ∷ (3 ∷ 1 ∷ []) ∷ []; ends = λ place. Some 3 }) Incoherent
unfolding are_reads are_distinct
ThreeWrites-last_first = refl

ThreeWrites-in_turn : IsSaid ThreeWrites (record { loads = [] ∷ [] ∷ (3 ∷ 1 ∷ []) ∷ []; ends = λ place. Some 2 }) Sequential
unfolding are_reads are_distinct
ThreeWrites-in_turn = refl
