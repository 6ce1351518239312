-- What holds in the loop over the events.
use Rattle.std.proofs.Common.{◌≡◌, map}
use Rattle.list_laws.specs.Numbers.{upto}
use Rattle.cycle_events.specs.{Resolution.moves_before, Resolution.location_of, Values.value_of, Values.write_count}
use Rattle.coherence_values.specs.Arc.{seen_of}
use Rattle.coherence_values.proofs.Walk.{writes_so_far}
use Rattle.coherence_values.proofs.valued.walk_arcs.Given as goal

abbrev pub invariant-loop-i : goal.invariant-loop-i
invariant-loop-i l = record {
  goes : l.arc ≡ seen_of l.resolved (location_of l.resolved l.i) (writes_so_far l.resolved l.i);
  values : l.values.items ≡ map (value_of l.resolved) (upto l.i);
  arcs : l.arcs.items ≡ map (λ n. seen_of l.resolved n (write_count l.resolved n)) (upto (moves_before l.resolved l.i));
}
