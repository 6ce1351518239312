-- The hash of the bytes passed, with the rest, is that of the word.
use Rattle.std.proofs.Common.{◌≡◌, length}
use Rattle.relax_edges.specs.HashedWords.{hashed}
use Rattle.relax_edges.proofs.named.WordHash.of_word.Given as goal

abbrev pub invariant-loop-rest : goal.invariant-loop-rest
invariant-loop-rest l = hashed l.hash.hash l.rest ≡ hashed 0 l.word

abbrev pub decreases-loop-rest : goal.decreases-loop-rest
decreases-loop-rest l = length l.rest
