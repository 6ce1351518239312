-- Where none of the families that are left fits, none does.
use Rattle.cycle_names.proofs.Vocabulary.{drop, JoinNone}
use Rattle.cycle_names.proofs.fit.first_fit.Given as goal

abbrev pub invariant-loop-family : goal.invariant-loop-family
invariant-loop-family l = JoinNone l.edges (drop l.family-index l.families) → JoinNone l.edges l.families
