-- The edges added are those that the text would name, by the family whose name it begins with or by their words.
use Rattle.std.proofs.Common.{◌∙◌}
use Rattle.cycle_names.proofs.CycleOf.{word_fits, family_marked, family_none, read_none}
use Rattle.cycle_names.proofs.read.read_edges.Goals as goal

pub split_at-requires : goal.split_at-requires
split_at-requires c = word_fits c.as_slice.result.now c.args.text.now c.word.result.now c.in-Some.family c.in-Some.ensures c.word.ensures

pub returns-in_err-fill-in-Some : goal.returns-in_err-fill-in-Some
returns-in_err-fill-in-Some c =
    family_none c.as_slice.result.now c.args.text.now c.word.result.now c.split_at.result.1.now c.in-Some.family c.as_slice-in-Some.result.now c.args.edges.now.items c.new-unmarked.result.items c.fill.new.edges.items
    c.as_slice.ensures c.in-Some.ensures c.word.ensures (c.as_slice-in-Some.ensures.value ∙ c.edges_of-slots.ensures) c.split_at.ensures.back c.requires c.new-unmarked.ensures
    c.args.edges.now.items c.in_err-fill-in-Some.field-0.0 c.from_residual.result c.in_err-fill-in-Some.ensures

pub returns-in_ok-fill-in-Some : goal.returns-in_ok-fill-in-Some
returns-in_ok-fill-in-Some c =
    family_marked c.as_slice.result.now c.args.text.now c.word.result.now c.split_at.result.1.now c.in-Some.family c.as_slice-in-Some.result.now c.args.edges.now.items c.new-unmarked.result.items c.fill.new.edges.items
    c.as_slice.ensures c.in-Some.ensures c.word.ensures (c.as_slice-in-Some.ensures.value ∙ c.edges_of-slots.ensures) c.split_at.ensures.back c.requires c.new-unmarked.ensures
    c.mark_around.new.edges.items c.as_slice-in-Some-2.result.now c.fill.result c.mark_around.result c.fill.ensures c.as_slice-in-Some-2.ensures.value c.mark_around.ensures

pub returns-in-None : goal.returns-in-None
returns-in-None c =
    read_none c.as_slice.result.now c.args.text.now c.args.edges.now.items c.read_other.new.edges.items c.read_other.result c.as_slice.ensures c.in-None.ensures c.read_other.ensures
