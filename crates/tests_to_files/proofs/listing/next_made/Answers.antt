-- That `next_made` gives the next cycle of a walk that has a test.
use Rattle.tests_to_files.proofs.WalkTakenOn.{passes_none, passes_one, passes_to, passes_all}
use Rattle.tests_to_files.proofs.listing.next_made.Goals as goal

pub loop-cycle-init : goal.loop-cycle-init
loop-cycle-init g c = passes_none g.P.Fn.post g.A.Arch.puts c.args.mode c.args.walk.now

pub next-requires : goal.next-requires
next-requires g c = record { knows = rw c.loop-cycle.invariant.walk c.requires.knows }

pub returns-then-make_test-clause-next : goal.returns-then-make_test-clause-next
returns-then-make_test-clause-next g c =
    passes_to g.P.Fn.post g.A.Arch.puts c.args.mode c.args.walk.now c.loop-cycle.walk c.loop-cycle.invariant c.next.new.self c.in-Some.cycle
    c.in-Some.ensures.next c.in-Some.ensures.some c.in-Some.ensures.falls (c.make_test.ensures.made c.if-make_test.true)

pub loop-cycle-preserved : goal.loop-cycle-preserved
loop-cycle-preserved g c =
    passes_one g.P.Fn.post g.A.Arch.puts c.args.mode c.args.walk.now c.loop-cycle.walk c.loop-cycle.invariant c.next.new.self c.in-Some.cycle
    c.in-Some.ensures.next c.in-Some.ensures.some c.in-Some.ensures.falls (c.make_test.ensures.refused c.if-make_test.false)

pub returns-clause-next : goal.returns-clause-next
returns-clause-next g c =
    passes_all g.P.Fn.post g.A.Arch.puts c.args.mode c.args.walk.now c.loop-cycle.walk c.loop-cycle.invariant c.in_default.ensures.next c.next.new.self c.in_default.ensures.none
