-- A cell of the header that isn't that of the next thread is an error, and so is one of a thread too many.
use Rattle.litmus_text.proofs.{Vocabulary.{Err, ap, pieces_left, sym, ◌∙◌}, TableLoops.{heads_bad, heads_full}}
use Rattle.litmus_text.proofs.reading.table.count_heads.Goals as goal

pub returns-then-not-is_head-clause-heads : goal.returns-then-not-is_head-clause-heads
returns-then-not-is_head-clause-heads c =
    sym c.heads.invariant.same
    ∙ heads_bad c.args.number c.heads.threads c.args.cells.whole (pieces_left c.heads.pieces) c.in-Some.cell.now (pieces_left c.in-Some.remainder) c.in-Some.ensures (sym c.is_head.ensures ∙ c.if-not-is_head.true)
    ∙ ap Err (sym c.error_at_line.ensures)

pub returns-then-threads-ge-MAX_THREADS-clause-heads : goal.returns-then-threads-ge-MAX_THREADS-clause-heads
returns-then-threads-ge-MAX_THREADS-clause-heads c =
    sym c.heads.invariant.same
    ∙ heads_full c.args.number c.heads.threads c.args.cells.whole (pieces_left c.heads.pieces) c.in-Some.cell.now (pieces_left c.in-Some.remainder) c.in-Some.ensures (sym c.is_head.ensures ∙ c.if-not-is_head.false)
    c.if-threads-ge-MAX_THREADS.true
    ∙ ap Err (sym c.error_at_line-then-threads-ge-MAX_THREADS.ensures)
