-- `Feeding::end_log` answers an error that the end of a log shows.
use Rattle.std.proofs.Common.{sym, subst}
use Rattle.msum7_files.specs.FileFeeding.{IsEndFault}
use Rattle.msum7_files.proofs.FeedingLaws.{log_refused}
use Rattle.msum7_files.proofs.feeding.Feeding.end_log.Goals as goal

pub returns-in-Err : goal.returns-in-Err
returns-in-Err c = λ logs log reads.
    subst (IsEndFault logs log) (sym c.fault_of.ensures)
    (log_refused c.end_file.new.self logs log c.in-Err.error (c.in-Err.ensures.ended logs log reads.represents))
