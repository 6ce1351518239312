-- `sum_source` reads the log that the input is to its end, or until an error is seen, and feeds what it reads.
use Rattle.std.proofs.{Common.take, Common.arith, lemmas.Result.err_from_is_err_and}
use Rattle.diy_io.specs.Taken.{SourceSeen}
use Rattle.msum7_files.proofs.FeedingLaws.{reads_nothing, took_of, reads_more, read_end, goes_on, reads_part, reads_failed, short_piece}
use Rattle.msum7_files.proofs.LogLaws.{part_faulty, end_faulty, whole_summed}
use Rattle.msum7_files.proofs.input.sum_source.Goals as goal

pub loop-count-init : goal.loop-count-init
loop-count-init g c = λ logs reads. reads_nothing _ c.args.feeding.now logs reads

pub returns-then-count-eq0 : goal.returns-then-count-eq0
returns-then-count-eq0 g c = λ logs reads.
    let whole = read_end _ (g.I.Source.seen c.loop-count.input) _
    c.loop-count.feeding logs c.read.new.buf c.in_ok-count.count (c.loop-count.invariant logs reads)
    c.in_ok-count.ensures.bound c.in_ok-count.ensures.bytes.0 (c.in_ok-count.ensures.bytes.1 c.if-count-eq0.true (omega arith)) c.if-count-eq0.true
    c.in_ok-count.ensures.ends (omega arith) c.in_ok-count.ensures.counted c.in_ok-count.ensures.no_fault in
    whole_summed _ _ c.loop-count.feeding c.end_log.new.self logs whole (c.in_ok-end_log.ensures logs whole.log whole.reads)

pub returns-in_err-end_log : goal.returns-in_err-end_log
returns-in_err-end_log g c = λ logs reads.
    let p = err_from_is_err_and c.from_residual-in_err-end_log.result c.from_residual-in_err-end_log.ensures.1 in
    let whole = read_end _ (g.I.Source.seen c.loop-count.input) _
    c.loop-count.feeding logs c.read.new.buf c.in_ok-count.count (c.loop-count.invariant logs reads)
    c.in_ok-count.ensures.bound c.in_ok-count.ensures.bytes.0 (c.in_ok-count.ensures.bytes.1 c.if-count-eq0.true (omega arith)) c.if-count-eq0.true
    c.in_ok-count.ensures.ends (omega arith) c.in_ok-count.ensures.counted c.in_ok-count.ensures.no_fault in
    rw (p.1, p.2)
    (end_faulty _ _ c.args.feeding.now c.loop-count.feeding logs c.in_err-end_log.field-0.0 reads whole (c.in_err-end_log.ensures logs whole.log whole.reads))

pub returns-in_err-count : goal.returns-in_err-count
returns-in_err-count g c = λ logs reads.
    let p = err_from_is_err_and c.from_residual.result c.from_residual.ensures.1 in
    rw (p.1, p.2)
    (reads_failed _ (g.I.Source.seen c.loop-count.input) (g.I.Source.seen c.read.new.self)
    c.loop-count.feeding logs (c.loop-count.invariant logs reads) c.loop-count.feeding.in_range
    c.in_err-count.ensures.uncounted c.in_err-count.ensures.no_end c.in_err-count.ensures.fault c.in_err-count.ensures.never_falls)

pub loop-count-preserved : goal.loop-count-preserved
loop-count-preserved g c = λ logs reads.
    let mid : SourceSeen = g.I.Source.seen c.loop-count.input in
    let new : SourceSeen = g.I.Source.seen c.read.new.self in
    let so_far = c.loop-count.invariant logs reads in
    reads_more _ mid new c.loop-count.feeding c.feed.new.self logs (take c.in_ok-count.count c.read.new.buf) so_far
    (took_of mid new c.read.new.buf c.in_ok-count.count c.in_ok-count.ensures.bound c.in_ok-count.ensures.bytes.0 c.in_ok-count.ensures.counted)
    (goes_on mid new _ c.in_ok-count.count c.in_ok-count.ensures.ends c.if-count-eq0.false) c.in_ok-count.ensures.no_fault
    (c.in_ok-feed.ensures.fed logs so_far.bytes so_far.reads)

pub returns-in_err-feed : goal.returns-in_err-feed
returns-in_err-feed g c = λ logs reads.
    let p = err_from_is_err_and c.from_residual-in_err-feed.result c.from_residual-in_err-feed.ensures.1 in
    let old : SourceSeen = g.I.Source.seen c.args.input.now in
    let mid : SourceSeen = g.I.Source.seen c.loop-count.input in
    let new : SourceSeen = g.I.Source.seen c.read.new.self in
    let so_far = c.loop-count.invariant logs reads in
    rw (p.1, p.2)
    (part_faulty old new c.args.feeding.now logs c.in_err-feed.field-0.0 reads
    (reads_part _ mid new c.loop-count.feeding logs (take c.in_ok-count.count c.read.new.buf) c.in_err-feed.field-0.0 so_far c.loop-count.feeding.in_range
    (short_piece c.read.new.buf c.in_ok-count.count c.in_ok-count.ensures.bound (omega arith))
    (took_of mid new c.read.new.buf c.in_ok-count.count c.in_ok-count.ensures.bound c.in_ok-count.ensures.bytes.0 c.in_ok-count.ensures.counted)
    (goes_on mid new _ c.in_ok-count.count c.in_ok-count.ensures.ends c.if-count-eq0.false) c.in_ok-count.ensures.no_fault
    (c.in_err-feed.ensures.fed logs so_far.bytes so_far.reads)))
