-- The law that normal forms decide whether two cycles are the same is its lemma.
use Rattle.edge_algebra_laws.proofs.Laws as laws
use Rattle.edge_algebra_laws.proofs.normal_forms_decide.Goals as goal

pub returns : goal.returns
returns c = laws.normal_forms_decide
