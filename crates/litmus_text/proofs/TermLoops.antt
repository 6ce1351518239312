-- Reading the terms of a condition as a loop does.
use Rattle.final_cond.specs.declared.read.Follow.TheVariants as follows
use Rattle.litmus_text.proofs.Vocabulary.{BadCondition, Err, Fault, Follow, List, Mentioned, Ok, Result, Setting, TermRead, TermSeen, TermsRead, TextError, TooLarge, Writing, [], append_assoc, arith, bad, before_read, follow_read, suc, term_here, terms_here, zero, ℕ, ◌++◌, ◌+◌, ◌<◌, ◌>>=◌, ◌∷◌, ◌≡◌}

-- the terms that were read before others
abbrev pub remainder : List TermSeen → Result TermsRead TextError → Result TermsRead TextError
remainder prefix (Ok r) = Ok (record r { terms = prefix ++ r.terms })
remainder prefix (Err e) = Err e

after_more : (prefix : List TermSeen) (t : TermSeen) (r : Result TermsRead TextError) → remainder (prefix ++ t ∷ []) r ≡ remainder prefix (r >>= λ others. Ok (before_read t others))
after_more prefix t (x) = grind (arith, append_assoc)

-- where a term is faulty, the condition is
pub stops_at_term : (w : Writing) (here : Setting) (room : ℕ) (s : Mentioned) (text : List ℕ) (prefix : List TermSeen) (e : TextError) (whole : Result TermsRead TextError)
    → term_here w here s text ≡ Err e → remainder prefix (terms_here w here room s text) ≡ whole → whole ≡ Err e
unfolding terms_here
stops_at_term w here room s text prefix e whole h k = grind arith

-- a term too many is too large
pub stops_at_full : (w : Writing) (here : Setting) (room : ℕ) (s : Mentioned) (text : List ℕ) (prefix : List TermSeen) (t : TermRead) (whole : Result TermsRead TextError)
    → room ≡ 0 → term_here w here s text ≡ Ok t → remainder prefix (terms_here w here room s text) ≡ whole → whole ≡ bad TooLarge here.begins
unfolding terms_here
stops_at_full w here room s text prefix t whole full h k = grind arith

-- where what follows a term is faulty, the condition is
pub stops_at_follow : (w : Writing) (here : Setting) (room : ℕ) (s : Mentioned) (text : List ℕ) (prefix : List TermSeen) (t : TermRead) (f : Fault) (whole : Result TermsRead TextError)
    → 0 < room → term_here w here s text ≡ Ok t → follow_read t.rest ≡ Err f → remainder prefix (terms_here w here room s text) ≡ whole → whole ≡ bad BadCondition here.begins
unfolding terms_here
stops_at_follow w here room s text prefix t f whole more h g k = grind arith

-- where the terms end after one, they are read
pub ends_at_follow : (w : Writing) (here : Setting) (room : ℕ) (s : Mentioned) (text : List ℕ) (prefix prefix' : List TermSeen) (t : TermRead) (step : Follow) (rest : List ℕ) (whole : Result TermsRead TextError)
    → 0 < room → prefix' ≡ prefix ++ t.term ∷ [] → term_here w here s text ≡ Ok t → follow_read t.rest ≡ Ok (step, rest) → step ≡ follows.End
    → remainder prefix (terms_here w here room s text) ≡ whole → whole ≡ Ok (record { terms = prefix'; state = t.state; rest = rest })
unfolding terms_here
ends_at_follow w here room s text prefix prefix' t step rest whole more f h g d k = grind arith

-- where the terms go on after one, the others are read
pub goes_on : (w : Writing) (here : Setting) (room room' : ℕ) (s : Mentioned) (text : List ℕ) (prefix prefix' : List TermSeen) (t : TermRead) (step : Follow) (rest : List ℕ) (whole : Result TermsRead TextError)
    → room ≡ room' + 1 → prefix' ≡ prefix ++ t.term ∷ [] → term_here w here s text ≡ Ok t → follow_read t.rest ≡ Ok (step, rest) → step ≡ follows.Term
    → remainder prefix (terms_here w here room s text) ≡ whole → remainder prefix' (terms_here w here room' t.state rest) ≡ whole
unfolding terms_here
goes_on w here zero room' s text prefix prefix' t step rest whole more f h g d k = absurd (omega arith)
goes_on w here (suc room) room' s text prefix prefix' t step rest whole more f h g d k = grind (arith, after_more)
