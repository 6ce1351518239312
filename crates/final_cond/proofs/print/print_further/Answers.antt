-- That `print_further` adds the further terms to a page.
use Rattle.std.proofs.Common.{arith}
use Rattle.final_cond.proofs.PrintLaws.{none_put, one_more_put}
use Rattle.final_cond.proofs.print.print_further.Goals as goal

pub loop-term-init : goal.loop-term-init
loop-term-init c = none_put _ _

pub loop-term-preserved : goal.loop-term-preserved
loop-term-preserved c =
    one_more_put _ _ _ c.args.terms.now c.loop-term.term-index c.term-item.result (omega arith) c.term-item.is c.loop-term.invariant
    c.print_further_term.ensures.text c.print_further_term.ensures.short
