-- The walk over the rows appends each.
use Rattle.litmus_text.proofs.{Vocabulary.{LINE_ROOM, Row, test_seen, ◌≡◌}, TextParts.PutsParts}
use Rattle.litmus_text.proofs.parts.put_rows.Given as goal

-- the rows up to one are appended, and before the first nothing of the room is taken
abbrev pub invariant-loop-row : goal.invariant-loop-row
invariant-loop-row g l = record {
  rows : PutsParts g.A.Arch.writing (test_seen l.test) (Row l.first) l.fn.page l.page l.left (Row l.row);
  begun : l.row ≡ l.first → l.left ≡ LINE_ROOM;
}
