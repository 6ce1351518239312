-- The printed text of the test of a cycle, under the cycle's name, is short.
use Rattle.std.proofs.{Common.{◌≡◌, ◌≤◌, List, length, None, arith}, lemmas.Bool.Decides.nat_tests}
use Rattle.relax_edges.specs.{declared.kinds.ObsMode.ObsMode, declared.edge.Edge.Edge}
use Rattle.edge_algebra_laws.specs.Composable.{IsCycle}
use Rattle.cycle_names.specs.CycleNames.{name_of}
use Rattle.cycle_names.proofs.NameLaws.{names_of_cycles}
use Rattle.cycle_events.specs.Resolution.{turned}
use Rattle.arch_trait.specs.{Cells.{WritesCells, MakesOneAccess}, Laws.IsArch, Threads.Puts, Writing.{Writing, WritesBack}}
use Rattle.litmus_text.specs.{declared.limits.TheConstants.MAX_TEST_TEXT, Printable.IsTestName}
use Rattle.test_maker.specs.{CycleText.cycle_text, Refusals.refusal_of}
use Rattle.test_maker.proofs.HavingTests.{accepted_has_test}
use Rattle.bytes_force_cycles.proofs.Readable.{readable}

-- the name of a cycle is one of a test
pub cycle_named : (cycle : List Edge) → IsCycle cycle → IsTestName (name_of cycle)
cycle_named cycle whole =
    let name = names_of_cycles cycle whole in
    record { some = grind (arith, nat_tests, name.some); short = grind (arith, nat_tests, name.short); bytes = name.bytes }

-- the text of the test of a cycle that isn't refused is short
pub cycle_text_short : (a : Puts) (w : Writing) (mode : ObsMode) (cycle : List Edge) → IsArch a → WritesBack a w → WritesCells a w → MakesOneAccess a → IsCycle cycle → refusal_of a cycle mode ≡ None
    → length (cycle_text a w mode (name_of cycle) cycle) ≤ MAX_TEST_TEXT
unfolding cycle_text
cycle_text_short a w mode cycle laws back cells one whole accepted =
    (readable a a.name w (name_of cycle) (turned cycle) mode laws back cells one (cycle_named cycle whole) (accepted_has_test a cycle mode whole accepted).code).short
