-- `skip_files` sums the files that words name, one after another, and writes their sum.
use Rattle.std.proofs.Common.{Err, ◌∙◌, sym, subst, arith}
use Rattle.diy_io.specs.Wrote.{SinkSeen}
use Rattle.msum7_files.specs.{declared.sum_end.SumEnd.SumEnd, SkipEnds.FilesSkipped}
use Rattle.msum7_files.proofs.SkipFilesLaws.{one_more, files_refused, files_kept}
use Rattle.msum7_files.proofs.sift_files.skip_files.Goals as goal

pub returns-in-Err-clause-summed : goal.returns-in-Err-clause-summed
returns-in-Err-clause-summed g c =
    let out : SinkSeen = g.O.Sink.seen c.args.out.now in
    let P : SumEnd → Type 0 = λ end.
    FilesSkipped c.args.form (g.H.Shelf.seen c.args.shelf.now) (g.H.Shelf.seen c.sift_file.new.shelf) c.args.words.now c.args.first out out (Err end) in
    subst P (sym c.end_at.ensures)
    (files_refused c.args.form (g.H.Shelf.seen c.args.shelf.now) (g.H.Shelf.seen c.loop-word.shelf) (g.H.Shelf.seen c.sift_file.new.shelf) out
    c.loop-word.sifting c.sift_file.new.sifting c.args.words.now c.args.first c.loop-word.word c.get.result.now c.in-Err.fault
    c.loop-word.invariant.so_far c.loop-word.invariant.files c.get.ensures
    (c.in-Err.ensures.summed c.loop-word.invariant.so_far.logs c.loop-word.invariant.so_far.reads))

pub loop-word-preserved : goal.loop-word-preserved
loop-word-preserved g c = record {
  so_far =
      one_more (g.H.Shelf.seen c.args.shelf.now) (g.H.Shelf.seen c.loop-word.shelf) (g.H.Shelf.seen c.sift_file.new.shelf)
      c.loop-word.sifting c.sift_file.new.sifting c.args.words.now c.args.first c.loop-word.word c.get.result.now
      c.loop-word.invariant.so_far c.loop-word.invariant.files c.get.ensures
      (c.in_default-sift_file.ensures.summed c.loop-word.invariant.so_far.logs c.loop-word.invariant.so_far.reads);
  mode = c.sift_file.ensures.mode;
  files = c.sift_file.ensures.files ∙ c.loop-word.invariant.files;
}

pub write_sum-requires : goal.write_sum-requires
write_sum-requires g c = record { logs = c.loop-word.invariant.so_far.logs; represents = c.loop-word.invariant.so_far.reads.represents }

pub returns-in-Ok-write_sum-clause-summed : goal.returns-in-Ok-write_sum-clause-summed
returns-in-Ok-write_sum-clause-summed g c =
    let w = c.in-Ok-write_sum.ensures _ c.loop-word.invariant.so_far.reads in
    files_kept c.args.form (g.H.Shelf.seen c.args.shelf.now) (g.H.Shelf.seen c.loop-word.shelf) _ _ c.loop-word.sifting c.args.words.now c.args.first c.loop-word.word
    c.loop-word.invariant.so_far (omega arith) w

pub returns-in-Err-write_sum-clause-summed : goal.returns-in-Err-write_sum-clause-summed
returns-in-Err-write_sum-clause-summed g c =
    let w = c.in-Err-write_sum.ensures _ c.loop-word.invariant.so_far.reads in (
      w.0,
      files_kept c.args.form (g.H.Shelf.seen c.args.shelf.now) (g.H.Shelf.seen c.loop-word.shelf) _ _ c.loop-word.sifting c.args.words.now c.args.first c.loop-word.word
          c.loop-word.invariant.so_far (omega arith) w.1,
    )
