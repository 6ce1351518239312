-- The law is its lemma.
use Rattle.tools_agree.proofs.CheckedFiles as lemmas
use Rattle.tools_agree.proofs.verdicts.checked_are_written.Goals as goal

pub returns : goal.returns
returns c = lemmas.checked_are_written
