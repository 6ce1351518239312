-- `sum_file` opens a file and sums it.
use Rattle.msum7_files.proofs.FilesLaws.{opened_summed, opened_refused}
use Rattle.msum7_files.proofs.files.sum_file.Goals as goal

pub returns-in-Ok-sum_open-clause-summed : goal.returns-in-Ok-sum_open-clause-summed
returns-in-Ok-sum_open-clause-summed g c = λ logs reads.
    opened_summed _ (g.H.Shelf.seen c.open_file.new.self) (g.H.Shelf.seen c.sum_open.new.shelf) c.sum_open.new.feeding logs c.args.name.now
    c.in-Ok.ensures.ok (c.in-Ok-sum_open.ensures.summed logs reads) c.sum_open.ensures.opened

pub returns-in-Err-clause-summed : goal.returns-in-Err-clause-summed
returns-in-Err-clause-summed g c = λ logs reads.
    opened_refused _ (g.H.Shelf.seen c.open_file.new.self) (g.H.Shelf.seen c.sum_open.new.shelf) c.sum_open.new.feeding logs c.args.name.now c.in-Err.fault
    c.in-Ok.ensures.ok (c.in-Err.ensures.summed logs reads) c.sum_open.ensures.opened c.sum_open.ensures.at_open
