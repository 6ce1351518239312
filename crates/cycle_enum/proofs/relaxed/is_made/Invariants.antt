-- No rotation by a place passed so far is a concatenation.
use Rattle.std.proofs.Common.{ℕ, ◌<◌, List}
use Rattle.relax_edges.specs.declared.edge.Edge.{Edge}
use Rattle.cycle_enum_laws.specs.Listing.{IsConcatenation}
use Rattle.edge_algebra_laws.specs.Rotation.{rotated}
use Rattle.cycle_enum.specs.RelaxSets.{ArePlaces}
use Rattle.cycle_enum.proofs.relaxed.is_made.Given as goal

abbrev pub invariant-loop-k : goal.invariant-loop-k
invariant-loop-k l = (relaxes : List (List Edge)) → ArePlaces relaxes l.places → (j : ℕ) → j < l.k → IsConcatenation relaxes (rotated j l.cycle) → ⊥
