-- The errors of logs.
use Rattle.std.specs.Prelude.{ℕ, Option}
use Rattle.log_sum.specs.declared.errors.SumError.{SumError}
use Rattle.log_sum.specs.declared.errors.SumError.TheVariants as sums
use Rattle.msum7_files.specs.declared.{feeding.LogFault.LogFault, feeding.LogFault.TheVariants.Wrong, feeding.LogFault.TheVariants.TooMuch}
use Rattle.msum7_files.specs.declared.{feeding.LogFault.TheVariants.NoMemory, sum_end.SumEnd.SumEnd}
use Rattle.msum7_files.specs.declared.sum_end.SumEnd.TheVariants as ends

-- why no more is fed, from the error that a summer returns
abbrev pub sum_fault : SumError → LogFault
sum_fault (sums.Log error) = Wrong error
sum_fault sums.NoMemory = NoMemory

-- how a call ends for this reason, at this file or at the input
abbrev pub sum_end_at : Option ℕ → LogFault → SumEnd
sum_end_at file (Wrong error) = ends.Wrong file error.line error.kind
sum_end_at file (TooMuch line) = ends.TooMuch file line
sum_end_at file NoMemory = ends.NoMemory
