-- Where the accesses of a thread of the cycle are among those of all events: for clauses of private functions.
use Rattle.std.specs.Prelude.{ℕ, ◌<◌, ◌≤◌, List, length, map}
use Rattle.relax_edges.specs.declared.edge.Edge.{Edge}
use Rattle.list_laws.specs.Numbers.{upto}
use Rattle.cycle_events.specs.Resolution.{thread_of}
use Rattle.arch_trait.specs.declared.step.Step.{Step}
use Rattle.tests_force_cycles.specs.{CycleSteps.event_step, TestOf.plain}

-- the accesses of all events, in order
abbrev pub all_steps : List Edge → List Step
all_steps es = map (event_step es plain) (upto (length es))

-- all events before `start` are of earlier threads, and all from it on are of this thread or later ones
pub record IsThreadStart (es : List Edge) (thread start : ℕ) : Type 0 where
  pub within : start ≤ length es
  pub before : (event : ℕ) → event < start → thread_of es event < thread
  pub from : (event : ℕ) → start ≤ event → event < length es → thread ≤ thread_of es event
