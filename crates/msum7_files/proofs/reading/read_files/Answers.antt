-- `read_files` feeds the files that words name, one after another.
use Rattle.std.proofs.Common.{◌∙◌, sym, subst, arith}
use Rattle.msum7_files.specs.{declared.logs_fault.LogsFault.LogsFault, LogsFed.LogFilesUnread}
use Rattle.msum7_files.proofs.{FilesLaws.one_more, LogsFedLaws.{files_fed, files_unread}}
use Rattle.msum7_files.proofs.reading.read_files.Goals as goal

pub returns-in-Err-clause-read : goal.returns-in-Err-clause-read
returns-in-Err-clause-read g c =
    let P : LogsFault → Type 0 = λ fault. LogFilesUnread (g.H.Shelf.seen c.args.shelf.now) (g.H.Shelf.seen c.sum_file.new.shelf) c.args.words.now c.args.first fault in
    subst P (sym c.fault_in_file.ensures)
    (files_unread (g.H.Shelf.seen c.args.shelf.now) (g.H.Shelf.seen c.loop-word.shelf) (g.H.Shelf.seen c.sum_file.new.shelf)
    c.loop-word.feeding c.sum_file.new.feeding c.args.words.now c.args.first c.loop-word.word c.get.result.now c.in-Err.fault
    c.loop-word.invariant.so_far c.loop-word.invariant.files c.get.ensures
    (c.in-Err.ensures.summed c.loop-word.invariant.so_far.logs c.loop-word.invariant.so_far.reads))

pub loop-word-preserved : goal.loop-word-preserved
loop-word-preserved g c = record {
  so_far =
      one_more (g.H.Shelf.seen c.args.shelf.now) (g.H.Shelf.seen c.loop-word.shelf) (g.H.Shelf.seen c.sum_file.new.shelf)
      c.loop-word.feeding c.sum_file.new.feeding c.args.words.now c.args.first c.loop-word.word c.get.result.now
      c.loop-word.invariant.so_far c.loop-word.invariant.files c.get.ensures
      (c.in_default-sum_file.ensures.summed c.loop-word.invariant.so_far.logs c.loop-word.invariant.so_far.reads);
  mode = c.sum_file.ensures.mode;
  files = c.sum_file.ensures.files ∙ c.loop-word.invariant.files;
}

pub returns-clause-read : goal.returns-clause-read
returns-clause-read g c =
    files_fed (g.H.Shelf.seen c.args.shelf.now) (g.H.Shelf.seen c.loop-word.shelf) c.loop-word.feeding c.args.words.now c.args.first c.loop-word.word
    c.loop-word.invariant.so_far (omega arith)
