-- The edges drawn are those picked for the family's cycle, and so a cycle.
use Rattle.demo_tests.proofs.FilledLaws.{filled_from}
use Rattle.demo_tests.proofs.filling.draw_cycle.Goals as goal

pub of-requires : goal.of-requires
of-requires c =
    (filled_from c.args.choices.now.arch c.args.draws.now.seed c.args.slots.now c.clear.new.self.items c.fill.new.edges.items c.as_slice.result.now
    c.requires c.clear.ensures c.fill.ensures.edges c.as_slice.ensures.value).1
