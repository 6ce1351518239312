-- The walk over the threads appends the items of each.
use Rattle.litmus_text.proofs.{Vocabulary.{Items, LINE_ROOM, test_seen, ◌+◌, ◌-◌, ◌≡◌}, TextParts.PutsParts}
use Rattle.litmus_text.proofs.parts.put_items.Given as goal

-- the items of the threads up to one are appended, with room for the closing brace, and before the first nothing of the room is taken
abbrev pub invariant-loop-thread : goal.invariant-loop-thread
invariant-loop-thread g l = record {
  items : PutsParts g.A.Arch.writing (test_seen l.test) (Items l.first) l.fn.page l.page (l.left + 2) (Items l.thread);
  begun : l.thread ≡ l.first → l.left ≡ LINE_ROOM - 2;
}
