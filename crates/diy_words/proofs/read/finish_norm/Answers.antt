-- That `finish_norm` gives what is asked for with `-names`, or without it.
use Rattle.diy_words.proofs.read.finish_norm.Goals as goal

pub returns-then-notes : goal.returns-then-notes
returns-then-notes c = λ edges places files e f. rw c.if-notes.true (c.finish_names.ensures edges places files e f)

pub returns-else-notes : goal.returns-else-notes
returns-else-notes c = λ edges places files e f. rw c.if-notes.false (c.finish_name.ensures edges places files e f)
