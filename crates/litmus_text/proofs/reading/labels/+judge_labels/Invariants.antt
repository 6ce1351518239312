-- The operations that are left grow fewer.
use Rattle.litmus_text.proofs.Vocabulary.{length}
use Rattle.litmus_text.proofs.reading.labels.+judge_labels.Given as goal

abbrev pub decreases-judge_labels : goal.decreases-judge_labels
decreases-judge_labels l = length l.remainder.now
