-- That `read_open` reads the file that is open, and closes it.
use Rattle.tests_from_files.proofs.FileLaws.{open_read}
use Rattle.tests_from_files.proofs.file.read_open.Goals as goal

pub returns-in-Ok-clause-open : goal.returns-in-Ok-clause-open
returns-in-Ok-clause-open g c =
    open_read _ (g.H.Shelf.seen c.read_text.new.shelf) _ c.read_text.new.text.items c.finish.result c.in-Ok.ensures.read c.finish.ensures.ok
    c.finish.ensures.failed
