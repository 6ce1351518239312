-- That `next_accepted` gives the next cycle of a walk that has a test.
use Rattle.tests_to_files.proofs.WalkTakenOn.{passes_none, passes_one, passes_to, passes_all}
use Rattle.tests_to_files.proofs.names.next_accepted.Goals as goal

pub loop-cycle-init : goal.loop-cycle-init
loop-cycle-init g c = passes_none g.P.Fn.post g.A.Arch.puts c.args.mode c.args.walk.now

pub next-requires : goal.next-requires
next-requires g c = record { knows = rw c.loop-cycle.invariant.walk c.requires.knows }

pub returns-then-is_accepted : goal.returns-then-is_accepted
returns-then-is_accepted g c =
    passes_to g.P.Fn.post g.A.Arch.puts c.args.mode c.args.walk.now c.loop-cycle.walk c.loop-cycle.invariant c.next.new.self c.in-Some.cycle
    c.in-Some.ensures.next c.in-Some.ensures.some c.in-Some.ensures.falls (c.is_accepted.ensures.accepted c.if-is_accepted.true)

pub loop-cycle-preserved : goal.loop-cycle-preserved
loop-cycle-preserved g c =
    passes_one g.P.Fn.post g.A.Arch.puts c.args.mode c.args.walk.now c.loop-cycle.walk c.loop-cycle.invariant c.next.new.self c.in-Some.cycle
    c.in-Some.ensures.next c.in-Some.ensures.some c.in-Some.ensures.falls (c.is_accepted.ensures.refused c.if-is_accepted.false)

pub returns : goal.returns
returns g c =
    passes_all g.P.Fn.post g.A.Arch.puts c.args.mode c.args.walk.now c.loop-cycle.walk c.loop-cycle.invariant c.in_default.ensures.next c.next.new.self c.in_default.ensures.none
