-- A walk over the terms of a text: those read so far, before what the definition reads in the rest.
use Rattle.std.proofs.Common.{◌≡◌, ℕ, zero, suc, ◌+◌, ◌<◌, List, [], ◌∷◌, ◌++◌, refl, sym, ap, ◌∙◌, arith, append_assoc}
use Rattle.std.specs.Prelude.{Bool, Ok, Err}
use Rattle.final_cond.specs.{declared.errors.CondKind.TheVariants.BadEnd, declared.read.Follow.Follow, Conditions.{LeftSeen, TermSeen}}
use Rattle.final_cond.specs.ConditionReading.{Fault, ConditionRead, cond_fault, term_read, follow_read, terms_read, before_terms}
use Rattle.final_cond.specs.declared.read.Follow.TheVariants as follows
use Rattle.text_parts.specs.{Blanks.unblanked, ReadingSteps.◌>>=◌}

-- terms, and those that are read after them
abbrev pub remainder : List TermSeen → ConditionRead (List TermSeen) → ConditionRead (List TermSeen)
remainder prefix (Ok terms) = Ok (prefix ++ terms.0, terms.1)
remainder prefix (Err f) = Err f

-- with no terms before them, terms are as they were read
pub nothing_after : (read : ConditionRead (List TermSeen)) → remainder [] read ≡ read
nothing_after (Ok terms) = refl
nothing_after (Err f) = refl

-- where a term is faulty, that is the error of the whole
pub stops_at_term : (known : LeftSeen → Bool) (room : ℕ) (text : List ℕ) (prefix : List TermSeen) (f : Fault) (whole : ConditionRead (List TermSeen))
    → term_read known text ≡ Err f → remainder prefix (terms_read known room text) ≡ whole → whole ≡ Err f
unfolding terms_read
stops_at_term known zero text prefix f whole e h = sym h ∙ rw e refl
stops_at_term known (suc room) text prefix f whole e h = sym h ∙ rw e refl

-- where there is no room for a term, it is an error where it begins
pub stops_at_full : (known : LeftSeen → Bool) (room : ℕ) (text : List ℕ) (prefix : List TermSeen) (t : TermSeen × List ℕ) (whole : ConditionRead (List TermSeen))
    → room ≡ 0 → term_read known text ≡ Ok t → remainder prefix (terms_read known room text) ≡ whole → whole ≡ cond_fault BadEnd (unblanked text)
unfolding terms_read
stops_at_full known zero text prefix t whole full e h = sym h ∙ rw e refl
stops_at_full known (suc room) text prefix t whole full e h = absurd (omega arith)

-- where what follows a term is faulty, that is the error of the whole
pub stops_at_follow : (known : LeftSeen → Bool) (room : ℕ) (text : List ℕ) (prefix : List TermSeen) (t : TermSeen × List ℕ) (f : Fault) (whole : ConditionRead (List TermSeen))
    → 0 < room → term_read known text ≡ Ok t → follow_read t.1 ≡ Err f → remainder prefix (terms_read known room text) ≡ whole → whole ≡ Err f
unfolding terms_read
stops_at_follow known zero text prefix t f whole more e k h = absurd (omega arith)
stops_at_follow known (suc room) text prefix t f whole more e k h = sym h ∙ rw (e, k) refl

-- where `)` follows a term, the terms up to it are those of the whole
pub ends_at_follow : (known : LeftSeen → Bool) (room : ℕ) (text : List ℕ) (prefix prefix' : List TermSeen) (t : TermSeen × List ℕ) (step : Follow) (rest : List ℕ) (whole : ConditionRead (List TermSeen))
    → 0 < room → prefix' ≡ prefix ++ t.0 ∷ [] → term_read known text ≡ Ok t → follow_read t.1 ≡ Ok (step, rest) → step ≡ follows.End
    → remainder prefix (terms_read known room text) ≡ whole → whole ≡ Ok (prefix', rest)
unfolding terms_read
ends_at_follow known zero text prefix prefix' t step rest whole more f e k d h = absurd (omega arith)
ends_at_follow known (suc room) text prefix prefix' t step rest whole more f e k d h = sym h ∙ rw (e, k, d, f) refl

after_more : (prefix : List TermSeen) (t : TermSeen) (read : ConditionRead (List TermSeen)) → remainder (prefix ++ t ∷ []) read ≡ remainder prefix (read >>= λ others. Ok (before_terms t others))
after_more prefix t (Ok terms) = ap (λ ts. Ok (ts, terms.1)) (append_assoc prefix (t ∷ []) terms.0)
after_more prefix t (Err f) = refl

-- where `/\` follows a term, the reading goes on with what comes after it
pub goes_on : (known : LeftSeen → Bool) (room room' : ℕ) (text : List ℕ) (prefix prefix' : List TermSeen) (t : TermSeen × List ℕ) (step : Follow) (rest : List ℕ) (whole : ConditionRead (List TermSeen))
    → room ≡ room' + 1 → prefix' ≡ prefix ++ t.0 ∷ [] → term_read known text ≡ Ok t → follow_read t.1 ≡ Ok (step, rest) → step ≡ follows.Term
    → remainder prefix (terms_read known room text) ≡ whole → remainder prefix' (terms_read known room' rest) ≡ whole
unfolding terms_read
goes_on known zero room' text prefix prefix' t step rest whole more f e k d h = absurd (omega arith)
goes_on known (suc room) room' text prefix prefix' t step rest whole more f e k d h =
    let n : room' ≡ room = omega arith in
    let s : remainder prefix (terms_read known (suc room) text) ≡ remainder prefix (terms_read known room rest >>= λ others. Ok (before_terms t.0 others)) = rw (e, k, d) refl in
    rw (n, f) (after_more prefix t.0 (terms_read known room rest) ∙ sym s ∙ h)
