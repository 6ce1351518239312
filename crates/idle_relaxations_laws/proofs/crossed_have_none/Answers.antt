-- The law of choices is its lemma.
use Rattle.idle_relaxations_laws.proofs.NoCycles as laws
use Rattle.idle_relaxations_laws.proofs.crossed_have_none.Goals as goal

pub returns : goal.returns
returns c = laws.crossed_have_none
