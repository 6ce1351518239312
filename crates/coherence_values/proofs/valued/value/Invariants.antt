-- In the loop over the locations: none before this one needs an observer.
use Rattle.std.proofs.Common.{◌≡◌, None}
use Rattle.list_laws.specs.Numbers.{upto}
use Rattle.cycle_events.specs.Values.{first_need}
use Rattle.coherence_values.proofs.valued.value.Given as goal

abbrev pub invariant-loop-location : goal.invariant-loop-location
invariant-loop-location l = first_need l.resolved (upto l.location) ≡ None
