-- The law is its lemma.
use Rattle.tools_agree.proofs.LinesAgain as lemmas
use Rattle.tools_agree.proofs.lines.lines_are_classified.Goals as goal

pub returns : goal.returns
returns c = lemmas.lines_are_classified
