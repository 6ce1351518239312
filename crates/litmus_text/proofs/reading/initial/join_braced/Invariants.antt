-- The text so far and the lines that are left give what the whole gives.
use Rattle.litmus_text.proofs.Vocabulary.{braced, joined_seen, length, text_left, ◌≡◌}
use Rattle.litmus_text.proofs.reading.initial.join_braced.Given as goal

abbrev pub invariant-lines : goal.invariant-lines
invariant-lines l = braced (joined_seen l.joined) l.number l.text (text_left l.rest) ≡ braced (joined_seen l.fn.joined) l.fn.number l.fn.text (text_left l.fn.rest)

abbrev pub decreases-lines : goal.decreases-lines
decreases-lines l = length l.rest.bytes.now
