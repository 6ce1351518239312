-- That `finish_one` gives what is asked for with `-co`, or without it.
use Rattle.diy_words.proofs.read.finish_one.Goals as goal

pub returns-then-notes : goal.returns-then-notes
returns-then-notes c = λ edges places files e f. rw c.if-notes.true (c.finish_coherence.ensures edges places files e f)

pub returns-else-notes : goal.returns-else-notes
returns-else-notes c = λ edges places files e f. rw c.if-notes.false (c.finish_test.ensures edges places files e f)
