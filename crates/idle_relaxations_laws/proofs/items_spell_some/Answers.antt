-- The law of items is its lemma.
use Rattle.idle_relaxations_laws.proofs.ItemRelaxations as laws
use Rattle.idle_relaxations_laws.proofs.items_spell_some.Goals as goal

pub returns : goal.returns
returns c = laws.items_spell_some
