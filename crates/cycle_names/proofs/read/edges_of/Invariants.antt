-- The edges of the slots passed are added, and there is room for the others.
use Rattle.cycle_names.proofs.Vocabulary.{◌≡◌, ◌++◌, length, map, drop, family_edges, slot_edge}
use Rattle.cycle_names.proofs.read.edges_of.Given as goal

abbrev pub invariant-loop-slot : goal.invariant-loop-slot
invariant-loop-slot l = record {
  pushed : l.edges.items ++ map slot_edge (drop l.slot-index l.slot-items) ≡ family_edges l.fn.family;
  room : length l.edges.items ≡ l.slot-index;
}
