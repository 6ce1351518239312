-- The law is its lemma.
use Rattle.tools_agree.proofs.LinesAgain as lemmas
use Rattle.tools_agree.proofs.lines.norms_again.Goals as goal

pub returns : goal.returns
returns c = lemmas.norms_again
