-- The bytes that were passed are lines that are passed over.
use Rattle.litmus_text.proofs.Vocabulary.{length, text_left, ◌≡◌, ◌≤◌}
use Rattle.litmus_text.proofs.reading.text.Text.lines.Given as goal

abbrev pub invariant-loop-left : goal.invariant-loop-left
invariant-loop-left l = record {
  same : text_left l.left ≡ text_left l.fn.self;
  within : length l.left.bytes.now ≤ length l.fn.self.bytes.now;
}

abbrev pub decreases-loop-left : goal.decreases-loop-left
decreases-loop-left l = length l.left.bytes.now
