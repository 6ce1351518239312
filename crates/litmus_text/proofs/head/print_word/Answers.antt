-- A word of an edge and the blank before it are no longer than there is room for.
use Rattle.litmus_text.proofs.{Vocabulary.{ap, arith, codes, length, length-append, separator_at, word_of}, JoinLaws.separator_short}
use Rattle.litmus_text.proofs.head.print_word.Goals as goal

pub returns-clause-short : goal.returns-clause-short
returns-clause-short c =
    let parts = length-append (separator_at (codes " ") c.args.i) (word_of c.args.edge) in
    let word = ap length c.text.ensures.word in
    omega (arith, separator_short (codes " ") c.args.i)
