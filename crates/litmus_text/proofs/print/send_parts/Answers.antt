-- The parts of a text are sent one after another, until there is none or the sink fails.
use Rattle.litmus_text.proofs.{Vocabulary.{subst, test_seen}, SendLaws.{SentTo, parts_first, parts_more, parts_stop}}
use Rattle.litmus_text.proofs.print.send_parts.Goals as goal

pub loop-next-init : goal.loop-next-init
loop-next-init g c = parts_first g.A.Arch.writing (test_seen c.args.test.now) _ _

pub returns-in_err-spill : goal.returns-in_err-spill
returns-in_err-spill g c =
    parts_stop g.A.Arch.writing (test_seen c.args.test.now) _ _ _ _ _ _ _ _ c.from_residual.result c.loop-next.invariant c.in_err-spill.ensures.sends.failed c.from_residual.ensures.1

pub loop-next-preserved : goal.loop-next-preserved
loop-next-preserved g c =
    let w = g.A.Arch.writing in
    let test = test_seen c.args.test.now in
    let so_far = subst (SentTo w test (g.O.Sink.seen c.args.out.now) (g.O.Sink.seen c.loop-next.out) c.args.page.now c.loop-next.page) c.in-Some.is c.loop-next.invariant in
    parts_more w test _ _ _ _ _ _ _ c.in-Some.part _ so_far c.in_ok-spill.ensures.sends.ok c.in_ok-spill.ensures.room c.put_part-next.ensures
