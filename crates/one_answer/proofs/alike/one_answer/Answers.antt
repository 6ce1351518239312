-- The law is its lemma.
use Rattle.one_answer.proofs.OneAnswer as lemmas
use Rattle.one_answer.proofs.alike.one_answer.Goals as goal

pub returns : goal.returns
returns c = lemmas.one_answer
