-- The text so far and the lines that are left give what the whole gives.
use Rattle.litmus_text.proofs.Vocabulary.{all_joined, joined_seen, length, text_left, ◌≡◌}
use Rattle.litmus_text.proofs.reading.joined.Joined.push_all.Given as goal

abbrev pub invariant-loop-line : goal.invariant-loop-line
invariant-loop-line l = all_joined (joined_seen l.self) (text_left l.left) ≡ all_joined (joined_seen l.fn.self) (text_left l.fn.text)

abbrev pub decreases-loop-line : goal.decreases-loop-line
decreases-loop-line l = length l.left.bytes.now
