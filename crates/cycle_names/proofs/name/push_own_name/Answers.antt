-- The words of the normal form make the name of a cycle of no family.
use Rattle.cycle_names.proofs.CycleOf.{own_name}
use Rattle.cycle_names.proofs.name.push_own_name.Goals as goal

pub returns : goal.returns
returns c =
    own_name c.args.cycle.now c.edges.result.now c.from.result c.least_place.result _ _ _ c.edges.ensures.composable c.requires.none c.least_place.ensures.least
    c.edges.ensures.value c.from.ensures c.requires.empty c.push_str.ensures.bytes c.push_rotation.ensures.text
