-- Walks over the pairs of a state and over the terms of a condition.
use Rattle.std.proofs.{Common.{◌≡◌, ℕ, suc, ◌+◌, ◌<◌, List, ◌∷◌, length, get_or, drop, refl, sym, ap, subst, ◌∙◌, add-one}, Math.Seq.drop-cons}
use Rattle.std.specs.{Prelude.{◌↔◌, true, false, map, Option, Some}, List.AllByRecursion}
use Rattle.relax_edges.specs.{declared.kinds.Value.Value, declared.kinds.Value.TheVariants.Num}
use Rattle.final_cond.specs.{declared.cond.Left.Left, declared.cond.Term.Term, Conditions.{LeftSeen, left_view, term_view}}
use Rattle.final_cond.specs.States.{same_left_seen, value_in_state, pair_view}

-- the value of a left side is that of the first pair with it
pub first_is : (pairs : List (Left × Value)) (i : ℕ) (pair : Left × Value) (left : LeftSeen) (whole : Option Value) → i < length pairs → pair ≡ get_or pairs i pair
    → same_left_seen (left_view pair.0) left ≡ true → value_in_state (map pair_view (drop i pairs)) left ≡ whole → Some pair.1 ≡ whole
first_is pairs i pair left whole inside is same h =
    let e : drop i pairs ≡ pair ∷ drop (suc i) pairs = drop-cons pairs i pair inside ∙ ap (λ p. p ∷ drop (suc i) pairs) (sym is) in
    sym (sym h ∙ rw e (rw same refl))

-- a pair with another left side is passed over
pub first_is_later : (pairs : List (Left × Value)) (i : ℕ) (pair : Left × Value) (left : LeftSeen) (whole : Option Value) → i < length pairs → pair ≡ get_or pairs i pair
    → same_left_seen (left_view pair.0) left ≡ false → value_in_state (map pair_view (drop i pairs)) left ≡ whole → value_in_state (map pair_view (drop (i + 1) pairs)) left ≡ whole
first_is_later pairs i pair left whole inside is same h =
    let e : drop i pairs ≡ pair ∷ drop (i + 1) pairs = rw add-one (drop-cons pairs i pair inside ∙ ap (λ p. p ∷ drop (suc i) pairs) (sym is)) in
    sym (rw e (rw same refl)) ∙ h

-- each term's left side has its value
abbrev pub Met : (LeftSeen → Option Value) → Term → Type 0
Met final term = final (left_view term.left) ≡ Some (Num term.value)

-- each of these terms has its value in the state
abbrev pub AllMet : (LeftSeen → Option Value) → List Term → Type 0
AllMet final terms = AllByRecursion (λ term. final term.left ≡ Some (Num term.value)) (map term_view terms)

-- a term that is met is passed over
pub one_more_met : (final : LeftSeen → Option Value) (terms : List Term) (i : ℕ) (term : Term) → i < length terms → term ≡ get_or terms i term
    → Met final term → (AllMet final (drop i terms) ↔ AllMet final terms) → AllMet final (drop (i + 1) terms) ↔ AllMet final terms
one_more_met final terms i term inside is met h =
    let e : drop i terms ≡ term ∷ drop (i + 1) terms = rw add-one (drop-cons terms i term inside ∙ ap (λ t. t ∷ drop (suc i) terms) (sym is)) in
    (λ rest. h.0 (subst (AllMet final) (sym e) (met, rest)), λ all. (subst (AllMet final) e (h.1 all)).1)

-- where a term isn't met, not all are
pub one_not_met : (final : LeftSeen → Option Value) (terms : List Term) (i : ℕ) (term : Term) → i < length terms → term ≡ get_or terms i term
    → (Met final term → ⊥) → (AllMet final (drop i terms) ↔ AllMet final terms) → AllMet final terms → ⊥
one_not_met final terms i term inside is unmet h all =
    let e : drop i terms ≡ term ∷ drop (suc i) terms = drop-cons terms i term inside ∙ ap (λ t. t ∷ drop (suc i) terms) (sym is) in
    unmet (subst (AllMet final) e (h.1 all)).0
