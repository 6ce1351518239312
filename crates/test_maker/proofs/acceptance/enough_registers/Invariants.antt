-- The loop of `enough_registers`: no thread before the next needs too many registers.
use Rattle.tests_force_cycles.specs.{CycleSteps.cycle_steps, TestOf.plain}
use Rattle.test_maker.proofs.Growing.{Fitting}
use Rattle.test_maker.proofs.acceptance.enough_registers.Given as goal

abbrev pub invariant-loop-thread : goal.invariant-loop-thread
invariant-loop-thread g l = Fitting g.A.Arch.puts (cycle_steps l.valued.edges l.valued.mode plain) l.thread
