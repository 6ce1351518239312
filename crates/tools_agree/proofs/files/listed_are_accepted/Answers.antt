-- The law is its lemma.
use Rattle.tools_agree.proofs.SaidCycles as lemmas
use Rattle.tools_agree.proofs.files.listed_are_accepted.Goals as goal

pub returns : goal.returns
returns c = lemmas.listed_are_accepted
