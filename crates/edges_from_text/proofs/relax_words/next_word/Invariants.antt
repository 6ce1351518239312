-- Only separators are passed, so the rest has the words of the text.
use Rattle.std.proofs.Common.{◌≡◌, ◌≤◌, length}
use Rattle.edges_from_text.specs.RelaxText.{words_of}
use Rattle.edges_from_text.proofs.relax_words.next_word.Given as goal

abbrev pub invariant-loop-rest : goal.invariant-loop-rest
invariant-loop-rest l = (words_of l.rest ≡ words_of l.text) × (length l.rest ≤ length l.text)

abbrev pub decreases-loop-rest : goal.decreases-loop-rest
decreases-loop-rest l = length l.rest
