-- That the place of an error that `read_cond` finds lies within the text.
use Rattle.final_cond.specs.{ConditionAnswers.fault_view, ConditionReading.has_form}
use Rattle.final_cond.proofs.WithinLaws.{fault_within}
use Rattle.final_cond.proofs.read.read_cond.Goals as goal

pub overflow_sub-result : goal.overflow_sub-result
overflow_sub-result c = fault_within has_form c.as_bytes-bytes.result.now (fault_view c.in-Err.fault) c.in-Err.ensures
