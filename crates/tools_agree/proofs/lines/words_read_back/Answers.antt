-- The law is its lemma.
use Rattle.tools_agree.proofs.SpelledWords as lemmas
use Rattle.tools_agree.proofs.lines.words_read_back.Goals as goal

pub returns : goal.returns
returns c = lemmas.words_read_back
