-- The loop of `print_further`: which terms are added so far.
use Rattle.final_cond.proofs.PrintLaws.{Further}
use Rattle.final_cond.proofs.print.print_further.Given as goal

-- the terms so far are added
abbrev pub invariant-loop-term : goal.invariant-loop-term
invariant-loop-term l = Further l.fn.page l.page l.terms l.term-index
