-- The columns that are left grow fewer.
use Rattle.litmus_text.proofs.Vocabulary.{length}
use Rattle.litmus_text.proofs.reading.labels.+judge_all_labels.Given as goal

abbrev pub decreases-judge_all_labels : goal.decreases-judge_all_labels
decreases-judge_all_labels l = length l.columns.now
