-- The words of the edges are appended one after another, with blanks between.
use Rattle.litmus_text.proofs.{Vocabulary.arith, JoinLaws.{none_put, one_put, all_put, all_short}}
use Rattle.litmus_text.proofs.head.print_words.Goals as goal

pub loop-i-init : goal.loop-i-init
loop-i-init c = none_put _ _ _ _ _

pub loop-i-preserved : goal.loop-i-preserved
loop-i-preserved c =
    one_put _ _ _ _ _ _ c.args.edges.now c.loop-i.i _ (omega arith) c.loop-i.invariant c.print_word.ensures.text c.print_word.ensures.short

pub returns-clause-text : goal.returns-clause-text
returns-clause-text c = all_put _ _ _ _ _ c.args.edges.now c.loop-i.i (omega arith) c.loop-i.invariant

pub returns-clause-short : goal.returns-clause-short
returns-clause-short c = all_short _ _ _ _ _ c.args.edges.now c.loop-i.i _ (omega arith) (omega arith) c.loop-i.invariant
