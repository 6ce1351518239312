-- That `read_file` opens, reads and closes the file of a name.
use Rattle.tests_from_files.proofs.FileLaws.{file_opened}
use Rattle.tests_from_files.proofs.file.read_file.Goals as goal

pub returns-in-Ok-clause-file : goal.returns-in-Ok-clause-file
returns-in-Ok-clause-file g c =
    file_opened _ (g.H.Shelf.seen c.open_file.new.self) _ c.args.name.now _ c.read_open.result c.in-Ok.ensures.ok c.read_open.ensures.open
