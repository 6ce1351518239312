-- The walk over the terms of a condition, for which less and less room is left.
use Rattle.litmus_text.proofs.{Vocabulary.{MAX_TERMS, length, map, mentioned_seen, setting_seen, term_view, terms_here, ◌-◌, ◌≡◌}, TermLoops.remainder}
use Rattle.litmus_text.proofs.reading.terms.read_terms.Given as goal

-- the terms so far, and those of the rest, are those of the text
abbrev pub invariant-terms : goal.invariant-terms
invariant-terms g l =
    remainder (map term_view l.terms.items) (terms_here g.A.Arch.writing (setting_seen l.here) (MAX_TERMS - length l.terms.items) (mentioned_seen l.mentioned) l.rest)
    ≡ terms_here g.A.Arch.writing (setting_seen l.here) MAX_TERMS (mentioned_seen l.fn.mentioned) l.fn.text

abbrev pub decreases-terms : goal.decreases-terms
decreases-terms g l = MAX_TERMS - length l.terms.items
