-- `read_file` reads the open file to its end, or until an error is seen, and feeds what it reads.
use Rattle.std.proofs.{Common.{take, refl, arith, ◌∙◌}, lemmas.Result.err_from_is_err_and}
use Rattle.msum7_files.specs.LogFiles.{log_seen}
use Rattle.msum7_files.proofs.{FeedingLaws.short_piece, FileLaws.{gave_took, gave_mode, gave_more}, SkipLaws.{reads_nothing, reads_more, reads_over, reads_failed, gave_whole}}
use Rattle.msum7_files.proofs.sift_files.read_file.Goals as goal

pub loop-count-init : goal.loop-count-init
loop-count-init g c = record {
  read = λ logs reads. reads_nothing _ c.args.sifting.now logs reads;
  mode = c.requires.reading;
  files = refl;
  opened = refl;
  at_open = refl;
}

pub returns-then-count-eq0-clause-read : goal.returns-then-count-eq0-clause-read
returns-then-count-eq0-clause-read g c = λ logs reads.
    gave_whole _ (g.H.Shelf.seen c.loop-count.shelf) (g.H.Shelf.seen c.read.new.self) c.loop-count.sifting logs c.read.new.buf c.in_ok-count.count
    (c.loop-count.invariant.read logs reads) c.in_ok-count.ensures.bound c.in_ok-count.ensures.ok c.if-count-eq0.true (omega arith)

pub returns-in_err-count-clause-read : goal.returns-in_err-count-clause-read
returns-in_err-count-clause-read g c = λ logs reads.
    let p = err_from_is_err_and c.from_residual.result c.from_residual.ensures.1 in
    rw (p.1, p.2)
    (reads_failed _ (log_seen (g.H.Shelf.seen c.loop-count.shelf)) (log_seen (g.H.Shelf.seen c.read.new.self))
    c.loop-count.sifting logs (c.loop-count.invariant.read logs reads) c.loop-count.sifting.in_range
    c.in_err-count.ensures.failed.counts.taken c.in_err-count.ensures.failed.counts.ends c.in_err-count.ensures.failed.faulted.fault c.in_err-count.ensures.failed.faulted.never_falls)

pub loop-count-preserved : goal.loop-count-preserved
loop-count-preserved g c = record {
  read = λ logs reads.
      let so_far = c.loop-count.invariant.read logs reads in
      reads_more _ (log_seen (g.H.Shelf.seen c.loop-count.shelf)) (log_seen (g.H.Shelf.seen c.read.new.self)) c.loop-count.sifting c.feed.new.self logs
      (take c.in_ok-count.count c.read.new.buf) so_far
      (gave_took _ _ _ _ c.in_ok-count.ensures.ok)
      (gave_more _ _ c.read.new.buf c.in_ok-count.count _ c.in_ok-count.ensures.ok c.in_ok-count.ensures.bound c.if-count-eq0.false)
      c.in_ok-count.ensures.ok.no_fault
      (c.in_ok-feed.ensures.fed logs so_far.bytes so_far.reads);
  mode = gave_mode _ _ _ _ c.in_ok-count.ensures.ok;
  files = c.in_ok-count.ensures.ok.files ∙ c.loop-count.invariant.files;
  opened = c.in_ok-count.ensures.ok.opened ∙ c.loop-count.invariant.opened;
  at_open = c.in_ok-count.ensures.ok.at_open ∙ c.loop-count.invariant.at_open;
}

pub returns-in_err-feed-clause-read : goal.returns-in_err-feed-clause-read
returns-in_err-feed-clause-read g c = λ logs reads.
    let p = err_from_is_err_and c.from_residual-in_err-feed.result c.from_residual-in_err-feed.ensures.1 in
    let so_far = c.loop-count.invariant.read logs reads in
    rw (p.1, p.2)
    (reads_over _ (log_seen (g.H.Shelf.seen c.loop-count.shelf)) (log_seen (g.H.Shelf.seen c.read.new.self)) c.loop-count.sifting logs
    (take c.in_ok-count.count c.read.new.buf) c.in_err-feed.field-0.0 so_far c.loop-count.sifting.in_range
    (short_piece c.read.new.buf c.in_ok-count.count c.in_ok-count.ensures.bound (omega arith))
    (gave_took _ _ _ _ c.in_ok-count.ensures.ok)
    (gave_more _ _ c.read.new.buf c.in_ok-count.count _ c.in_ok-count.ensures.ok c.in_ok-count.ensures.bound c.if-count-eq0.false)
    c.in_ok-count.ensures.ok.no_fault
    (c.in_err-feed.ensures.fed logs so_far.bytes so_far.reads))
