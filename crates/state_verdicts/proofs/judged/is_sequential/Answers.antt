-- What is seen can be ordered exactly if the execution is sequentially consistent.
use Rattle.state_verdicts.proofs.Judging.{order_decides}
use Rattle.state_verdicts.proofs.judged.is_sequential.Goals as goal

pub returns : goal.returns
returns g c =
    order_decides c.args.test.now c.args.exec.now c.in_ok-seen.seen.items c.deref.result.now c.in_ok-can_be_ordered.field-0 c.requires.candidate c.requires.within
    c.in_ok-seen.ensures c.deref.ensures.value c.in_ok-can_be_ordered.ensures
