-- A cycle on which the test says no is not listed.
use Rattle.std.proofs.Common.{true, false, refl, rules}
use Rattle.cycle_enum.specs.Walking.{Says}
use Rattle.cycle_enum.proofs.walk.Space.is_listed.Goals as goal

pub call-requires : goal.call-requires
call-requires g c = rw (← c.self.view_is) at (c.requires.knows.asks.take.asked c.args.cycle.now c.edges-edges.ensures.composable c.requires.normal c.requires.kept c.args.cycle refl)

pub returns-else-call-clause-other : goal.returns-else-call-clause-other
returns-else-call-clause-other g c _ l =
    let s : Says g.P.Fn.post c.args.self.now.take c.args.cycle.now c.call.result = search rules in
    cc (c.requires.knows.asks.take.one_answer c.args.cycle.now true false l.cycle l.taken (rw c.if-call.false at s))
