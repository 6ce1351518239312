use Rattle.std.proofs.Common.{◌≡◌}
use Rattle.relax_edges.specs.declared.kinds.ObsMode.TheVariants.{Accept}
use Rattle.litmus_text.specs.{Tests.test_seen, TestText.test_text}
use Rattle.test_maker.specs.{CycleText.cycle_text, CycleTextLaws.made_text}
use Rattle.check_callers.proofs.tests.print_cycle.Goals as goal

-- the text of the test that was made is the text of the cycle
pub returns-in-Ok-print_test-clause-printed : goal.returns-in-Ok-print_test-clause-printed
returns-in-Ok-print_test-clause-printed g c =
    let a = g.A.Arch.puts in
    let w = g.A.Arch.writing in
    let same : test_text g.A.Arch.NAME w c.args.name.now (test_seen c.in-Ok.test) ≡ cycle_text a w Accept c.args.name.now c.args.cycle.now =
    made_text a w Accept c.args.name.now c.args.cycle.now g.A.Arch.NAME c.in-Ok.test g.met.A.Arch.same_name c.in-Ok.ensures.made.1 in
    λ _. rw (← same) c.in-Ok-print_test.ensures.ok

pub returns-in-Err-clause-failed : goal.returns-in-Err-clause-failed
returns-in-Err-clause-failed g c =
    let a = g.A.Arch.puts in
    let w = g.A.Arch.writing in
    let same : test_text g.A.Arch.NAME w c.args.name.now (test_seen c.in-Ok.test) ≡ cycle_text a w Accept c.args.name.now c.args.cycle.now =
    made_text a w Accept c.args.name.now c.args.cycle.now g.A.Arch.NAME c.in-Ok.test g.met.A.Arch.same_name c.in-Ok.ensures.made.1 in
    rw (← same) c.in-Err.ensures.failed
