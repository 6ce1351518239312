-- That `read_named_file` reads the file that a word names.
use Rattle.std.proofs.Common.{ℕ, List, subst}
use Rattle.diy_io.proofs.FileNameLaws.{named_word}
use Rattle.tests_from_files.specs.FilesRead.{FileTo}
use Rattle.tests_from_files.proofs.file.read_named_file.Goals as goal

pub returns-clause-file : goal.returns-clause-file
returns-clause-file g c =
    subst (λ (name : List ℕ). FileTo (g.H.Shelf.seen c.args.shelf.now) (g.H.Shelf.seen c.read_file.new.shelf) name c.read_file.new.text.items c.read_file.result)
    (named_word c.args.words.now c.args.place c.get.result.now c.get.ensures) c.read_file.ensures.file
