-- The words of the edges passed are added, and there is room for the others.
use Rattle.cycle_names.proofs.Vocabulary.{◌≡◌, ◌≤◌, ◌+◌, ◌*◌, ◌++◌, length, drop, flat_map, word_of, separator_text, MAX_SEPARATED}
use Rattle.cycle_names.proofs.words.push_separated.Given as goal

abbrev pub invariant-loop-edge : goal.invariant-loop-edge
invariant-loop-edge g l = record {
  pushed : l.words.bytes ++ flat_map (λ edge. separator_text l.fn.between ++ word_of edge) (drop l.edge-index l.edges)
      ≡ l.fn.words.bytes ++ flat_map (λ edge. separator_text l.fn.between ++ word_of edge) l.edges;
  room : length l.words.bytes ≤ length l.fn.words.bytes + MAX_SEPARATED * l.edge-index;
}
