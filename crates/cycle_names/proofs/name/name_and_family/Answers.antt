-- The text made is the name of a cycle.
use Rattle.cycle_names.proofs.NameLaws.{names_of_cycles}
use Rattle.cycle_names.proofs.name.name_and_family.Goals as goal

pub returns-in-Some-clause-form : goal.returns-in-Some-clause-form
returns-in-Some-clause-form c = rw (c.push_family_name.ensures, c.edges-in-Some.ensures.value) (names_of_cycles c.args.cycle.now c.edges.ensures.composable)

pub returns-in-None-clause-form : goal.returns-in-None-clause-form
returns-in-None-clause-form c = rw c.push_own_name.ensures (names_of_cycles c.args.cycle.now c.edges.ensures.composable)
