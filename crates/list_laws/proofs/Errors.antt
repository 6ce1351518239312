-- Elements judged by those before them, in a list that is made of two.
use Rattle.std.proofs.{Common.{◌≡◌, List, [], ◌∷◌, ◌++◌, sym, ap, ◌∙◌, append_assoc}, lemmas.List.append-nil}
use Rattle.list_laws.specs.Errors.{with_before}

-- the elements of a second list come after all of the first
pub before_append : {A : Type 0} (before xs ys : List A) → with_before before (xs ++ ys) ≡ with_before before xs ++ with_before (before ++ xs) ys
before_append before [] ys = ap (λ c. with_before c ys) (sym (append-nil before))
before_append before (x ∷ xs) ys =
    ap (λ others. (before, x) ∷ others) (before_append (before ++ x ∷ []) xs ys ∙ ap (λ c. with_before (before ++ x ∷ []) xs ++ with_before c ys) (append_assoc before (x ∷ []) xs))
