-- The items so far and those that are left give what all give.
use Rattle.litmus_text.proofs.Vocabulary.{begun_seen, items_read, joined_seen, length, pieces, ◌+◌, ◌≡◌}
use Rattle.litmus_text.proofs.reading.initial.read_items.Given as goal

abbrev pub invariant-items : goal.invariant-items
invariant-items g l = record {
  same : items_read g.A.Arch.writing (joined_seen l.joined) l.i (pieces 59 l.rest) (begun_seen l.begun)
      ≡ items_read g.A.Arch.writing (joined_seen l.joined) 0 (pieces 59 l.joined.bytes.items) (begun_seen l.fn.begun);
  within : l.i + length l.rest ≡ length l.joined.bytes.items;
}

abbrev pub decreases-items : goal.decreases-items
decreases-items g l = length l.rest
