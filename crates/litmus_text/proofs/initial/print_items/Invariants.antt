-- The walk over the address registers appends their items.
use Rattle.litmus_text.proofs.{Vocabulary.{ITEM_ROOM, codes, item_text}, JoinLaws.Put}
use Rattle.litmus_text.proofs.initial.print_items.Given as goal

-- the items so far are appended
abbrev pub invariant-loop-i : goal.invariant-loop-i
invariant-loop-i g l = Put (item_text g.A.Arch.writing l.places l.thread) (codes " ") ITEM_ROOM l.fn.page l.page l.links l.i
