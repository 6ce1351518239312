-- The law is its lemma.
use Rattle.tools_agree.proofs.CyclesOfLines as lemmas
use Rattle.tools_agree.proofs.lines.said_are_cycles.Goals as goal

pub returns : goal.returns
returns c = lemmas.said_are_cycles
