-- What is said of a state of a log: a list of equalities of registers and locations, which hold at the end of an execution.
-- Source: own.
use Rattle.std.specs.Prelude.{ℕ, List, Option}
use Rattle.final_cond.specs.{Conditions.CondSeen, States.Meets}
use Rattle.program_meaning.specs.{Executions.Execution, Programs.Program}
use Rattle.litmus_text.specs.{ReadPrograms.program_read, TestReading.TestRead}
use Rattle.tests_force_cycles.specs.FinalStates.{final_state}
use Rattle.states_fix_executions.specs.States.{Any, SomeCoherent, SomeEnding, SomeSequential}
use Rattle.state_verdicts.specs.declared.verdict.Verdict.{Verdict}
use Rattle.state_verdicts.specs.declared.verdict.Verdict.TheVariants as verdicts

-- an execution of a test ends in a state: each of the state's equalities holds in its final state
abbrev pub EndsInState : (List ℕ → Option ℕ) → TestRead → CondSeen → Execution → Type 0
EndsInState register_number test state x = Meets (final_state (program_read test) test.places register_number x) state

-- what a verdict says of the candidate executions of a program that end so. Sequential: one is sequentially consistent. Relaxed: none is,
-- and one is coherent per location. Incoherent: there are some, and none is coherent. Impossible: there are none. Undecided says nothing
abbrev pub IsVerdict : Program → (Execution → Type 0) → Verdict → Type 0
IsVerdict p Ends verdicts.Sequential = SomeSequential p Ends
IsVerdict p Ends verdicts.Relaxed = (SomeSequential p Ends → ⊥) × SomeCoherent p Ends
IsVerdict p Ends verdicts.Incoherent = (SomeCoherent p Ends → ⊥) × SomeEnding p Ends Any
IsVerdict p Ends verdicts.Impossible = SomeEnding p Ends Any → ⊥
IsVerdict p Ends verdicts.Undecided = Unit {0}

-- a verdict is that of a state of a test
abbrev pub IsVerdictOf : (List ℕ → Option ℕ) → TestRead → CondSeen → Verdict → Type 0
IsVerdictOf register_number test state v = IsVerdict (program_read test) (EndsInState register_number test state) v

-- a coherent candidate execution of a test ends in a state
abbrev pub CoherentEndsIn : (List ℕ → Option ℕ) → TestRead → CondSeen → Type 0
CoherentEndsIn register_number test state = SomeCoherent (program_read test) (EndsInState register_number test state)
