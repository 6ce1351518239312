-- `sift_log` sums the open file, which stays open.
use Rattle.std.proofs.lemmas.Result.{err_from_is_err_and}
use Rattle.msum7_files.proofs.SkipLaws.{part_sifted, end_over, whole_sifted}
use Rattle.msum7_files.proofs.sift_files.sift_log.Goals as goal

pub returns-in_err-read_file-clause-summed : goal.returns-in_err-read_file-clause-summed
returns-in_err-read_file-clause-summed g c = λ logs reads.
    let p = err_from_is_err_and c.from_residual.result c.from_residual.ensures.1 in
    rw (p.1, p.2) (part_sifted _ _ c.read_file.new.sifting logs c.in_err-read_file.field-0.0 (c.in_err-read_file.ensures.read logs reads))

pub returns-clause-summed : goal.returns-clause-summed
returns-clause-summed g c = λ logs reads.
    let whole = c.in_ok-read_file.ensures.read logs reads in
    whole_sifted _ _ c.read_file.new.sifting c.end_log.new.self logs whole (c.in_ok-end_log.ensures logs whole.log whole.reads)

pub returns-in_err-end_log-clause-summed : goal.returns-in_err-end_log-clause-summed
returns-in_err-end_log-clause-summed g c = λ logs reads.
    let p = err_from_is_err_and c.from_residual-in_err-end_log.result c.from_residual-in_err-end_log.ensures.1 in
    let whole = c.in_ok-read_file.ensures.read logs reads in
    rw (p.1, p.2)
    (end_over _ _ c.read_file.new.sifting logs c.in_err-end_log.field-0.0 whole (c.in_err-end_log.ensures logs whole.log whole.reads))
