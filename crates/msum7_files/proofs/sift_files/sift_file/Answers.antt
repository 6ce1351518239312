-- `sift_file` opens a file and sums it.
use Rattle.msum7_files.proofs.SkipFilesLaws.{opened_sifted, opened_refused}
use Rattle.msum7_files.proofs.sift_files.sift_file.Goals as goal

pub returns-in-Ok-sift_open-clause-summed : goal.returns-in-Ok-sift_open-clause-summed
returns-in-Ok-sift_open-clause-summed g c = λ logs reads.
    opened_sifted _ (g.H.Shelf.seen c.open_file.new.self) (g.H.Shelf.seen c.sift_open.new.shelf) c.sift_open.new.sifting logs c.args.name.now
    c.in-Ok.ensures.ok (c.in-Ok-sift_open.ensures.summed logs reads) c.sift_open.ensures.opened

pub returns-in-Err-clause-summed : goal.returns-in-Err-clause-summed
returns-in-Err-clause-summed g c = λ logs reads.
    opened_refused _ (g.H.Shelf.seen c.open_file.new.self) (g.H.Shelf.seen c.sift_open.new.shelf) c.sift_open.new.sifting logs c.args.name.now c.in-Err.fault
    c.in-Ok.ensures.ok (c.in-Err.ensures.summed logs reads) c.sift_open.ensures.opened c.sift_open.ensures.at_open
