-- `sift_open` sums the open file and closes it.
use Rattle.std.proofs.Common.{ap, ◌∙◌, Err}
use Rattle.msum7_files.specs.LogFiles.{log_seen}
use Rattle.msum7_files.proofs.{LogLaws.{closed, idle_at_end}, SkipLaws.{closed_sifted, closed_failed, closed_over, sifted_refused, sifted_failed}}
use Rattle.msum7_files.proofs.sift_files.sift_open.Goals as goal

pub returns-in-Ok-finish-clause-summed : goal.returns-in-Ok-finish-clause-summed
returns-in-Ok-finish-clause-summed g c = λ logs reads.
    closed_sifted _ (log_seen (g.H.Shelf.seen c.sift_log.new.shelf)) (log_seen (g.H.Shelf.seen c.finish.new.self)) c.sift_log.new.sifting logs
    (c.in-Ok.ensures.summed logs reads) (idle_at_end _ c.in-Ok-finish.ensures.ok.mode) c.in-Ok-finish.ensures.ok.counts.taken c.in-Ok-finish.ensures.ok.counts.ends c.in-Ok-finish.ensures.ok.no_fault

pub returns-in-Err-clause-summed : goal.returns-in-Err-clause-summed
returns-in-Err-clause-summed g c = λ logs reads.
    closed_failed _ (log_seen (g.H.Shelf.seen c.sift_log.new.shelf)) (log_seen (g.H.Shelf.seen c.finish.new.self)) c.sift_log.new.sifting logs
    (c.in-Ok.ensures.summed logs reads) c.in-Err.ensures.failed.counts.taken c.in-Err.ensures.failed.counts.ends c.in-Err.ensures.failed.faulted.fault c.in-Err.ensures.failed.faulted.never_falls

pub returns-in-Err-Log-clause-summed : goal.returns-in-Err-Log-clause-summed
returns-in-Err-Log-clause-summed g c = λ logs reads.
    closed_over _ (log_seen (g.H.Shelf.seen c.sift_log.new.shelf)) (log_seen (g.H.Shelf.seen c.finish-in-Err-Log.new.self)) c.in-Err-Log.fault
    (sifted_refused _ _ _ _ _ _ (c.sift_log.ensures.summed logs reads) (c.in-Err-Log.is ∙ ap Err c.in-Err-Log.field-0-is)).0
    (closed _ _ _ c.finish-in-Err-Log.ensures.ok c.finish-in-Err-Log.ensures.failed).taken
    (closed _ _ _ c.finish-in-Err-Log.ensures.ok c.finish-in-Err-Log.ensures.failed).ends

pub returns-in-Err-Device-clause-summed : goal.returns-in-Err-Device-clause-summed
returns-in-Err-Device-clause-summed g c = λ logs reads.
    sifted_failed _ _ _ _ _ (c.sift_log.ensures.summed logs reads) (c.in-Err-Device.is ∙ ap Err c.in-Err-Device.field-0-is)
