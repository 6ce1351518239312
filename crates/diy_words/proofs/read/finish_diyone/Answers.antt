-- That `finish_diyone` gives what is asked for with `-lines`, or without it.
use Rattle.diy_words.proofs.read.finish_diyone.Goals as goal

pub returns-then-notes : goal.returns-then-notes
returns-then-notes c = λ edges places files e f. rw c.if-notes.true (c.finish_line_tests.ensures edges places files e f)

pub returns-else-notes : goal.returns-else-notes
returns-else-notes c = λ edges places files e f. rw c.if-notes.false (c.finish_cycle.ensures edges places files e f)
