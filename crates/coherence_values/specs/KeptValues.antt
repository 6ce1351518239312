-- What a valued cycle keeps besides its edges.
use Rattle.std.specs.Prelude.{◌≡◌, ℕ, List}
use Rattle.relax_edges.specs.declared.edge.Edge.{Edge}
use Rattle.cycle_events.specs.Resolution.{IsResolved}
use Rattle.coherence_values.specs.{declared.valued.Arc.Arc, Arc.{values_of, all_seen}}

-- the edges are resolved, and these are the values of their events and the arcs of their locations
pub record AreKeptValues (es : List Edge) (values : List ℕ) (arcs : List Arc) : Type 0 where
  pub resolved : IsResolved es
  pub values_are : values ≡ values_of es
  pub arcs_are : arcs ≡ all_seen es
