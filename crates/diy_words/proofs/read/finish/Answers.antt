-- That `finish` gives the request of the tool.
use Rattle.diy_words.proofs.read.finish.Goals as goal

pub returns-in-DiyOne : goal.returns-in-DiyOne
returns-in-DiyOne c = λ edges places files e f. rw (c.in-DiyOne.is) (c.finish_diyone.ensures edges places files e f)

pub returns-in-Diy : goal.returns-in-Diy
returns-in-Diy c = λ edges places files e f. rw (c.in-Diy.is) (c.finish_list.ensures edges places files e f)

pub returns-in-Norm : goal.returns-in-Norm
returns-in-Norm c = λ edges places files e f. rw (c.in-Norm.is) (c.finish_norm.ensures edges places files e f)

pub returns-in-Cross : goal.returns-in-Cross
returns-in-Cross c = λ edges places files e f. rw (c.in-Cross.is) (c.finish_cross.ensures edges places files e f)
