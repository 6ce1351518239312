-- The law that names decide whether two cycles are the same is its lemma.
use Rattle.cycle_names.proofs.NameLaws.{decide_names}
use Rattle.cycle_names.proofs.laws.names_decide.Goals as goal

pub returns : goal.returns
returns c = decide_names
