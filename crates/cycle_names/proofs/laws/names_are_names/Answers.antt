-- The law of the form of a name is its lemma.
use Rattle.cycle_names.proofs.NameLaws.{names_of_cycles}
use Rattle.cycle_names.proofs.laws.names_are_names.Goals as goal

pub returns : goal.returns
returns c = names_of_cycles
