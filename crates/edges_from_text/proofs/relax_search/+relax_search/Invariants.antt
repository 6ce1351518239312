-- Of a word's edges, the paths by those before the current one are kept.
use Rattle.std.proofs.Common.{◌≡◌, ◌+◌, ◌*◌, length, map, take}
use Rattle.edges_from_text.specs.{RelaxText.words_of, Relaxations.word_edges, RelaxSearch.{paths_by, KeepsPaths}}
use Rattle.edges_from_text.proofs.relax_search.+relax_search.Given as goal

abbrev pub decreases-keep_after : goal.decreases-keep_after
decreases-keep_after l = 2 * length l.words.now + 1

abbrev pub decreases-keep_paths : goal.decreases-keep_paths
decreases-keep_paths l = 2 * length l.words.now

abbrev pub invariant-keep_paths-loop-edge : goal.invariant-keep_paths-loop-edge
invariant-keep_paths-loop-edge l = record {
  same_prefix : l.chosen.items ≡ l.fn.chosen.items;
  kept : KeepsPaths l.fn.kept (paths_by l.fn.chosen.items (map word_edges (words_of l.remainder)) (take l.edge-index l.edge-items)) l.kept l.some;
}
