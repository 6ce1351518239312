-- The words of the links passed are added, and there is room for the others.
use Rattle.cycle_names.proofs.Vocabulary.{◌≡◌, ◌≤◌, ◌+◌, ◌*◌, ◌++◌, length, drop, flat_map, link_text, MAX_LINK}
use Rattle.cycle_names.proofs.words.push_each.Given as goal

abbrev pub invariant-loop-link : goal.invariant-loop-link
invariant-loop-link g l = record {
  pushed : l.name.bytes ++ flat_map link_text (drop l.link-index l.links) ≡ l.fn.name.bytes ++ flat_map link_text l.links;
  room : length l.name.bytes ≤ length l.fn.name.bytes + MAX_LINK * l.link-index;
}
