-- The blanks around an item are no more than the bytes of its piece, so its lines are found.
use Rattle.litmus_text.proofs.Vocabulary.{after_run-le, arith, before_blanks-le, is_blank, length, ◌≤◌}
use Rattle.litmus_text.proofs.reading.initial.read_item.Goals as goal

pub overflow_sub-piece : goal.overflow_sub-piece
overflow_sub-piece g c = rw c.without_blanks.ensures.text (after_run-le is_blank c.args.piece.now)

pub overflow_add-i-2 : goal.overflow_add-i-2
overflow_add-i-2 g c =
    let k : length c.without_last_blanks.result.now ≤ length c.args.piece.now = rw c.without_last_blanks.ensures (before_blanks-le c.args.piece.now) in
    let r = c.requires in
    let s = c.saturating_sub.ensures in
    omega arith
