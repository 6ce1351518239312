-- What a final state says of a program: the verdicts, by the candidate executions that end so.
-- Source: own; the four verdicts are the three ways in which a state is not one of an interleaving, and that it is one.
use Rattle.std.specs.Prelude.{ℕ, ◌≡◌, ◌<◌, List, Option, Some, None}
use Rattle.program_meaning.specs.{Executions.Execution, Coherence.final_value, Programs.{Program, IsCandidate, IsCoherentIn, accesses_in}}
use Rattle.sc_and_interleavings.specs.{Along.values_in, CoherenceLaws.WritesWithin, Sequential.IsSequential}

-- a final state: the values that the loads of each thread read, in program order, and the final value of each location, by its
-- number, if it is given
pub record FinalState : Type 0 where
  pub loads : List (List ℕ)
  pub ends : ℕ → Option ℕ

-- a location ends with the value that is given, if one is given
abbrev pub EndsWith : Option ℕ → ℕ → Type 0
EndsWith None value = Unit {0}
EndsWith (Some given) value = value ≡ given

-- an execution ends in a state: its reads take the values of the loads, and the locations end with the values that are given
pub record EndsIn (p : Program) (s : FinalState) (x : Execution) : Type 0 where
  pub reads : values_in x ≡ s.loads
  pub ends : (place : ℕ) → place < p.places → EndsWith (s.ends place) (final_value (accesses_in p x) x place)

-- what is said of a final state
pub data Verdict : Type 0 where
  Sequential : Verdict
  Relaxed : Verdict
  Incoherent : Verdict
  Impossible : Verdict

-- some candidate execution ends so, and this holds of it
pub record SomeEnding (p : Program) (Ends Holds : Execution → Type 0) : Type 0 where
  pub execution : Execution
  pub candidate : IsCandidate p execution
  pub ends : Ends execution
  pub holds : Holds execution

-- nothing is asked of an execution
abbrev pub Any : Execution → Type 0
Any x = Unit {0}

-- some candidate that ends so is sequentially consistent
abbrev pub SomeSequential : Program → (Execution → Type 0) → Type 0
SomeSequential p Ends = SomeEnding p Ends (λ x. IsSequential (accesses_in p x) x)

-- some candidate that ends so is coherent per location
abbrev pub SomeCoherent : Program → (Execution → Type 0) → Type 0
SomeCoherent p Ends = SomeEnding p Ends (IsCoherentIn p)

-- what a verdict says of the candidates that end so. Sequential: one is sequentially consistent. Relaxed: none is, and one is coherent per
-- location. Incoherent: there are some, and none is coherent. Impossible: there are none
abbrev pub HasVerdict : Program → (Execution → Type 0) → Verdict → Type 0
HasVerdict p Ends Sequential = SomeSequential p Ends
HasVerdict p Ends Relaxed = (SomeSequential p Ends → ⊥) × SomeCoherent p Ends
HasVerdict p Ends Incoherent = (SomeCoherent p Ends → ⊥) × SomeEnding p Ends Any
HasVerdict p Ends Impossible = SomeEnding p Ends Any → ⊥

-- the candidates that end so write only to the program's locations
abbrev pub WriteWithin : Program → (Execution → Type 0) → Type 0
WriteWithin p Ends = (x : Execution) → IsCandidate p x → Ends x → WritesWithin (accesses_in p x) p.places
