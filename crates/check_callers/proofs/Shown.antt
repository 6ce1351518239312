-- What a verdict says of an outcome.
use Rattle.std.proofs.Common.{◌≡◌, ◌↔◌, IsTrue, ℕ, Bool, true, false, List, Option, refl}
use Rattle.relax_edges.specs.declared.kinds.ArchName.{ArchName}
use Rattle.litmus_text.specs.TestReading.{TestRead}
use Rattle.program_meaning.specs.Executions.{Execution}
use Rattle.exec_check.specs.{declared.verdict.Verdict.Verdict, Verdicts.{IsVerdict, JudgesFurther}}
use Rattle.check_callers.specs.Outcomes.{ShowsOutcome}

-- an execution with a verdict that says that it is coherent shows the outcome exactly if it meets the condition
pub outcome_shown : (arch : ArchName) (register_number : List ℕ → Option ℕ) (test : TestRead) (x : Execution) (v : Verdict) →
    IsVerdict arch register_number test x v → IsTrue v.coherent → IsTrue v.condition ↔ ShowsOutcome register_number test x
outcome_shown arch register_number test x v is coherent = by_candidate v.candidate refl is.further
  where
    by_candidate : (candidate : Bool) → v.candidate ≡ candidate → JudgesFurther candidate arch register_number test x v →
        IsTrue v.condition ↔ ShowsOutcome register_number test x
    by_candidate true e j =
        (λ met. record { candidate = is.candidate.0 e; coherent = j.coherent.0 coherent; condition = j.condition.0 met }, λ shown. j.condition.1 shown.condition)
    by_candidate false e j = absurd (let h = rw j.coherent at coherent in cc h)
