-- `table_is_observed`: a line of the table has the words of the line of the observation.
use Rattle.log_sum.proofs.PrintLaws.{table_is_observed}
use Rattle.log_sum.proofs.law.table_is_observed.Goals as goal

pub returns : goal.returns
returns c = table_is_observed
