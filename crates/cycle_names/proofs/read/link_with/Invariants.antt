-- No edge of a rank passed is the link.
use Rattle.cycle_names.proofs.Vocabulary.{◌≡◌, ◌<◌, false, Edge, source_of, target_of, rank_of, is_link}
use Rattle.cycle_names.proofs.read.link_with.Given as goal

abbrev pub invariant-loop-rank : goal.invariant-loop-rank
invariant-loop-rank l = (e : Edge) → rank_of e < l.rank → is_link (source_of l.fn.slot) (target_of l.fn.slot) l.fn.word e ≡ false
