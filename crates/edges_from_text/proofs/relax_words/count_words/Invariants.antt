-- The words counted and those of the rest are the words of the text.
use Rattle.std.proofs.Common.{◌≡◌, ◌≤◌, ◌+◌, length}
use Rattle.edges_from_text.specs.RelaxText.{words_of}
use Rattle.edges_from_text.proofs.relax_words.count_words.Given as goal

abbrev pub invariant-loop-remainder : goal.invariant-loop-remainder
invariant-loop-remainder l = (l.count + length (words_of l.rest) ≡ length (words_of l.words)) × (l.count + length l.rest ≤ length l.words)

abbrev pub decreases-loop-remainder : goal.decreases-loop-remainder
decreases-loop-remainder l = length l.rest
