-- What a resolved cycle keeps besides its edges.
use Rattle.std.specs.Prelude.{◌≡◌, ℕ, List}
use Rattle.relax_edges.specs.declared.edge.Edge.{Edge}
use Rattle.cycle_events.specs.{declared.event.Event.Event, Resolution.{external_count, move_count, events_of, IsResolved}}

-- the edges are resolved, and these are their events and their numbers of threads and of locations
pub record AreKeptEvents (es : List Edge) (events : List Event) (threads locations : ℕ) : Type 0 where
  pub resolved : IsResolved es
  pub events_are : events ≡ events_of es
  pub threads_are : threads ≡ external_count es
  pub locations_are : locations ≡ move_count es
