-- The slots of the edges passed are added, and there is room for the others.
use Rattle.cycle_names.proofs.Vocabulary.{◌≡◌, ◌++◌, length, drop, map, outline, slot_edge}
use Rattle.cycle_names.proofs.fit.push_slots.Given as goal

abbrev pub invariant-loop-edge : goal.invariant-loop-edge
invariant-loop-edge l = record {
  pushed : map slot_edge l.slots.items ++ outline (drop l.edge-index l.edges) ≡ outline l.edges;
  room : length l.slots.items ≡ l.edge-index;
}
