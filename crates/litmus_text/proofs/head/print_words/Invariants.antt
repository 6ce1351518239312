-- The walk over the edges appends their words.
use Rattle.litmus_text.proofs.{Vocabulary.{WORD_ROOM, codes, word_of}, JoinLaws.Put}
use Rattle.litmus_text.proofs.head.print_words.Given as goal

-- the words so far are appended
abbrev pub invariant-loop-i : goal.invariant-loop-i
invariant-loop-i l = Put word_of (codes " ") WORD_ROOM l.fn.page l.page l.edges l.i
