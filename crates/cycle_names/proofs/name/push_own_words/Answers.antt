-- The words of the normal form make the name of a cycle of no family, and the words that come after it.
use Rattle.cycle_names.proofs.CycleOf.{own_name, own_words}
use Rattle.cycle_names.proofs.name.push_own_words.Goals as goal

pub returns-clause-name : goal.returns-clause-name
returns-clause-name c =
    own_name c.args.cycle.now c.edges.result.now c.from-least.result c.least_place.result _ _ _ c.edges.ensures.composable c.requires.none c.least_place.ensures.least
    c.edges.ensures.value c.from-least.ensures c.requires.empty c.push_str.ensures.bytes c.push_rotation_twice.ensures.dashed

pub returns-clause-words : goal.returns-clause-words
returns-clause-words c =
    own_words c.args.cycle.now c.edges.result.now c.from-least.result c.least_place.result _ _ c.edges.ensures.composable c.requires.none c.least_place.ensures.least
    c.edges.ensures.value c.from-least.ensures c.requires.no_words c.push_rotation_twice.ensures.spaced
