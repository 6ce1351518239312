-- The law is its lemma.
use Rattle.tools_agree.proofs.OwnLines as lemmas
use Rattle.tools_agree.proofs.lines.lines_read_as_themselves.Goals as goal

pub returns : goal.returns
returns c = lemmas.lines_read_as_themselves
