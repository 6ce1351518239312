-- That `step_of` gives the access of the event.
use Rattle.co_tests.proofs.Cuts.{loop_at, step_is}
use Rattle.co_tests.proofs.steps.step_of.Goals as goal

pub returns : goal.returns
returns c =
    step_is c.args.edges.now c.args.i c.source.result c.source_mark.result c.value_of.result c.link_into.result
    (loop_at c.args.edges.now c.args.cut c.requires.shape c.requires.cut).loop.is_cut c.source.ensures c.source_mark.ensures c.value_of.ensures c.link_into.ensures
