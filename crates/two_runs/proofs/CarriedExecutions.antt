-- An execution of the accesses of a cycle's test that reads what the intended one reads is one of the test's program.
use Rattle.std.proofs.Common.{◌≡◌, ℕ, List, length, slice_get, sym, ◌∙◌, ap, subst}
use Rattle.relax_edges.specs.declared.{kinds.ObsMode.ObsMode, edge.Edge.Edge}
use Rattle.cycle_events.specs.Resolution.{move_count}
use Rattle.arch_trait.specs.{Laws.IsArch, Threads.Puts}
use Rattle.program_meaning.specs.{Accesses.Access, Executions.Execution, Executions.IsExecutionOf, Coherence.IsCoherent, Programs.IsCandidate}
use Rattle.program_meaning.specs.{Programs.IsCoherentIn, Programs.accesses_in, Intended.IsNumbering, Intended.cycle_accesses, Intended.intended}
use Rattle.accesses_force_cycles.specs.{Premises.MeetsCondition, Joining.MakesAccesses, Joining.ReadsAsAsked}
use Rattle.accesses_force_cycles.proofs.{ResolvedFacts.resolves, IntendedReads.reads-count, Programs.makes_planned, Programs.intended_asked}
use Rattle.tests_force_cycles.specs.{TestHeadline.HasCode, CycleSteps.cycle_steps}
use Rattle.tests_force_cycles.proofs.{ThreadRuns.AreCodesOf, ThreadRuns.AreEnough, ThreadRuns.all_end, TestCodes.cycle_codes, TestCodes.cycle_program}
use Rattle.tests_force_cycles.proofs.{TestCodes.are_codes, AccessesMade.planned-count, AccessesMade.asked_enough, AccessesMade.makes_enough}

-- an execution is a candidate execution of the program and coherent there, and the accesses made are those of the test
pub record IsCarried (a : Puts) (es : List Edge) (mode : ObsMode) (number : ℕ → ℕ) (x : Execution) : Type 0 where
  pub made : accesses_in (cycle_program a es mode number) x ≡ cycle_accesses es mode number
  pub candidate : IsCandidate (cycle_program a es mode number) x
  pub coherent : IsCoherentIn (cycle_program a es mode number) x

-- an execution with the intended reads that meets the condition is carried to the test's program
pub carried : (a : Puts) (es : List Edge) (mode : ObsMode) (number : ℕ → ℕ) (x : Execution) → IsArch a → HasCode a es mode → IsNumbering es number → x.reads ≡ (intended es mode number).reads → MeetsCondition es mode number x → IsCarried a es mode number x
carried a es mode number x laws t n same q = record {
  made = made;
  candidate = record {
    ended = all_end (cycle_codes a es mode number) (cycle_steps es mode number) (move_count es) x codes (lists ∙ planned-count es mode number) enough;
    execution = subst (λ (l : List (List Access)). IsExecutionOf l (move_count es) x) (sym made) q.execution;
  };
  coherent = subst (λ (l : List (List Access)). IsCoherent l x) (sym made) q.coherent;
}
  where
    codes : AreCodesOf (cycle_codes a es mode number) (cycle_steps es mode number)
    codes = are_codes a es mode number laws t.resolved t.of_arch

    asked : ReadsAsAsked es mode number x
    asked k planned reads g h = intended_asked es mode number (resolves es t.resolved) n k planned reads g (ap (λ l. slice_get l k) (sym same) ∙ h)

    enough : AreEnough (cycle_steps es mode number) x
    enough = asked_enough es mode number x asked

    lists : length x.reads ≡ length (cycle_accesses es mode number)
    lists = ap length same ∙ reads-count es mode number

    makes : MakesAccesses es mode number (cycle_program a es mode number) x
    makes = makes_enough (cycle_codes a es mode number) es mode number x codes enough

    made : accesses_in (cycle_program a es mode number) x ≡ cycle_accesses es mode number
    made = makes_planned es mode number (cycle_program a es mode number) x makes asked (lists ∙ sym makes.threads)
