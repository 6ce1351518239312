-- The executions that printed tests ask for are there.
use Rattle.std.proofs.Common.{None, refl}
use Rattle.cycle_events.specs.Resolution.{turned}
use Rattle.arch_trait.specs.{Cells.{WritesCells, MakesOneAccess}, Laws.IsArch, Threads.Puts, Writing.{Writing, WritesBack}}
use Rattle.program_meaning.specs.{Executions.Execution}
use Rattle.tests_force_cycles.specs.{TestHeadline.HasTest}
use Rattle.bytes_force_cycles.proofs.Printed.{printed_force}
use Rattle.test_maker.proofs.HavingTests.{accepted_has_test}
use Rattle.co_tests.specs.{CoherenceTests.{HasCoherenceTest, incoherent_execution}, CoRefusals.{coherence_text}}
use Rattle.co_tests.proofs.{Accepted.neither_true, Printed.printed_show}
use Rattle.co_tests.proofs.Accepted as accepted_tests
use Rattle.two_runs.specs.{Runs.{numbers_by, run_by}}
use Rattle.two_runs.proofs.{IntendedLaws.is_run, CoherenceLaws.is_coherence_run}
use Rattle.tools_agree.specs.YesVerdicts.{ExecutionsExist, CoherenceExecutionsExist}

-- the execution that the test of a cycle asks for is there
pub executions_exist : (a : Puts) (w : Writing) → IsArch a → WritesBack a w → WritesCells a w → MakesOneAccess a → ExecutionsExist a w
executions_exist a w laws back cells one name cycle mode named c accepted =
    let es = turned cycle in
    let has : HasTest a es mode = accepted_has_test a cycle mode c accepted in
    let u = printed_force a a.name w name es mode laws back cells one named has in
    let run : Execution = run_by es mode None (numbers_by u.test.places) in
    (u.test, run, is_run a w name cycle mode u.test run laws back cells one named has u u.reads refl)

-- and that of its coherence test
pub coherence_executions_exist : (a : Puts) (w : Writing) → IsArch a → WritesBack a w → WritesCells a w → MakesOneAccess a → CoherenceExecutionsExist a w
unfolding coherence_text
coherence_executions_exist a w laws back cells one name cycle named c accepted =
    let es = turned cycle in
    let has : HasCoherenceTest a es = accepted_tests.accepted_has_test a cycle c accepted in
    let u = printed_show a a.name w laws back cells one name es named has in
    (u.test, incoherent_execution es, is_coherence_run a a.name w name es u.test (incoherent_execution es) laws back cells one named has u u.reads refl)
