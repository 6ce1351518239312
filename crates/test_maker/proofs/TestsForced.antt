-- The test that is made of a cycle forces it.
use Rattle.std.proofs.Common.{List, Result, Ok, Err, sym, subst}
use Rattle.std.specs.Prelude.{OnOk}
use Rattle.relax_edges.specs.{declared.kinds.ObsMode.ObsMode, declared.edge.Edge.Edge}
use Rattle.edge_algebra_laws.specs.Composable.{IsCycle}
use Rattle.cycle_events.specs.Resolution.{turned}
use Rattle.arch_trait.specs.{Laws.IsArch, PlaceNames.number_in, SeenTests.TestSeen, Threads.Puts, Writing.{Writing, WritesBack, name_in}}
use Rattle.tests_force_cycles.specs.{TestHeadline.Forces, TestOf.plain}
use Rattle.tests_force_cycles.proofs.{Headline.tests_force_law, RegisterNames.registers_found}
use Rattle.test_maker.specs.{declared.refusal.MakeRefusal.MakeRefusal, Made.MakesSeenTest}
use Rattle.test_maker.proofs.HavingTests.{accepted_has_test}

-- what a call made of a cycle forces it
pub made_forces : (a : Puts) (w : Writing) → IsArch a → WritesBack a w → (cycle : List Edge) (mode : ObsMode) (test : TestSeen) (result : Result (Unit {0}) MakeRefusal) →
    IsCycle cycle → MakesSeenTest a (name_in w.registers) cycle mode test result → OnOk result (Forces test (number_in w.registers) (turned cycle) mode plain)
made_forces a w laws back cycle mode test (Ok _) is_cycle made =
    subst (λ (seen : TestSeen). Forces seen (number_in w.registers) (turned cycle) mode plain) (sym made.1)
    (tests_force_law a (name_in w.registers) (number_in w.registers) (turned cycle) mode laws (registers_found a w back) (accepted_has_test a cycle mode is_cycle made.0))
made_forces a w laws back cycle mode test (Err refusal) is_cycle made = tt
