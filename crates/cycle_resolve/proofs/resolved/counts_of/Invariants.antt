-- What is counted in the loop over the edges.
use Rattle.std.proofs.Common.{◌≡◌}
use Rattle.cycle_events.specs.Resolution.{thread_of, moves_before}
use Rattle.cycle_resolve.proofs.resolved.counts_of.Given as goal

abbrev pub invariant-loop-edge : goal.invariant-loop-edge
invariant-loop-edge l = record {
  threads : l.threads ≡ thread_of l.edges l.edge-index;
  locations : l.locations ≡ moves_before l.edges l.edge-index;
}
