-- What an example says of an execution.
-- Source: own.
use Rattle.std.specs.Prelude.{ℕ, List, Option}
use Rattle.litmus_text.specs.{TestReading.TestRead, ReadPrograms.program_read}
use Rattle.program_meaning.specs.{Executions.Execution, Programs.{IsCandidate, IsCoherentIn}}
use Rattle.exec_check.specs.Verdicts.{EndsInCondition}

-- an execution is a candidate execution of a test, is coherent per location, and ends as the test's condition asks
pub record ShowsOutcome (register_number : List ℕ → Option ℕ) (test : TestRead) (x : Execution) : Type 0 where
  pub candidate : IsCandidate (program_read test) x
  pub coherent : IsCoherentIn (program_read test) x
  pub condition : EndsInCondition register_number test x
