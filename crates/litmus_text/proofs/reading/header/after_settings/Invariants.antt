-- The lines that were passed are settings.
use Rattle.litmus_text.proofs.Vocabulary.{after_settings, length, text_left, ◌≡◌}
use Rattle.litmus_text.proofs.reading.header.after_settings.Given as goal

abbrev pub invariant-settings : goal.invariant-settings
invariant-settings l = after_settings (text_left l.left) ≡ after_settings (text_left l.fn.text)

abbrev pub decreases-settings : goal.decreases-settings
decreases-settings l = length l.left.bytes.now
