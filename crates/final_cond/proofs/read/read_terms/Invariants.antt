-- The loop of `read_terms`: the terms so far, and that there is room for fewer.
use Rattle.std.proofs.Common.{◌≡◌, ◌-◌, map, length}
use Rattle.final_cond.specs.{declared.cond.TheConstants.MAX_TERMS, Conditions.term_view, ConditionReading.{has_form, terms_read}}
use Rattle.final_cond.proofs.TermLaws.{remainder}
use Rattle.final_cond.proofs.read.read_terms.Given as goal

-- the terms so far, and those of the rest, are those of the text
abbrev pub invariant-terms : goal.invariant-terms
invariant-terms l = remainder (map term_view l.terms.items) (terms_read has_form (MAX_TERMS - length l.terms.items) l.rest) ≡ terms_read has_form MAX_TERMS l.fn.text

abbrev pub decreases-terms : goal.decreases-terms
decreases-terms l = MAX_TERMS - length l.terms.items
