-- The law of listings is its lemma.
use Rattle.idle_relaxations_laws.proofs.NoCycles as laws
use Rattle.idle_relaxations_laws.proofs.listed_have_none.Goals as goal

pub returns : goal.returns
returns c = laws.listed_have_none
