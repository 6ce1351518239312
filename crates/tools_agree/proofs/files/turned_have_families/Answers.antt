-- The law is its lemma.
use Rattle.tools_agree.proofs.SaidCycles as lemmas
use Rattle.tools_agree.proofs.files.turned_have_families.Goals as goal

pub returns : goal.returns
returns c = lemmas.turned_have_families
