-- The answer is whether the final state meets the condition.
use Rattle.exec_check.proofs.Judging.{condition_holds}
use Rattle.exec_check.proofs.checking.meets_condition.Goals as goal

pub returns : goal.returns
returns g c = condition_holds _ _ _ _ c.holds.result c.in_ok-state.ensures c.cond.ensures c.holds.ensures
