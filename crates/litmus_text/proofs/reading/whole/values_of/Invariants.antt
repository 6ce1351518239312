-- The values so far are those of the thread.
use Rattle.litmus_text.proofs.Vocabulary.{take, values_of_thread, ◌≡◌}
use Rattle.litmus_text.proofs.reading.whole.values_of.Given as goal

abbrev pub invariant-loop-given : goal.invariant-loop-given
invariant-loop-given l = l.init.items ≡ values_of_thread l.thread (take l.given-index l.values)
