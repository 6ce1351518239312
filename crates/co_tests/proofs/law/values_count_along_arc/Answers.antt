-- The law `values_count_along_arc` holds.
use Rattle.co_tests.proofs.Arc.{values_count_along_arc}
use Rattle.co_tests.proofs.law.values_count_along_arc.Goals as goal

pub returns : goal.returns
returns c = values_count_along_arc
