-- What a filter keeps of a list and of its first elements, and where it stands in the list.
use Rattle.sc_and_interleavings.proofs.Vocabulary.{◌≡◌, ℕ, zero, suc, ◌+◌, ◌<◌, ◌≤◌, Bool, true, cond, List, [], ◌∷◌, Some, slice_get, take, refl, sym, ◌∙◌, ap, arith, count_by, filter, cond-true, cond-false, sum_by-cons, by_test}

counted : {X : Type 0} (p : X → Bool) (x : X) (xs : List X) (k : ℕ) → count_by p (take (suc k) (x ∷ xs)) ≡ cond (p x) 1 0 + count_by p (take k xs)
counted p x xs k = sum_by-cons (λ x. cond (p x) 1 0) x (take k xs)

-- the more elements, the more pass
pub count_rises : {X : Type 0} (p : X → Bool) (xs : List X) (j k : ℕ) → j ≤ k → count_by p (take j xs) ≤ count_by p (take k xs)
count_rises p xs zero k h = omega arith
count_rises p [] (suc j) zero h = absurd (omega (arith, h))
count_rises p [] (suc j) (suc k) h = omega arith
count_rises p (x ∷ xs) (suc j) zero h = absurd (omega (arith, h))
count_rises p (x ∷ xs) (suc j) (suc k) h = omega (arith, counted p x xs j, counted p x xs k, count_rises p xs j k (omega (arith, h)))

-- an element that passes counts one more
pub count_one : {X : Type 0} (p : X → Bool) (xs : List X) (k : ℕ) (x : X) → slice_get xs k ≡ Some x → p x ≡ true → count_by p (take (k + 1) xs) ≡ count_by p (take k xs) + 1
count_one p (y ∷ xs) (suc k) x h t = grind (arith, count_one p xs k x h t, counted)
count_one p xs k x h t = grind arith

-- an element of a filter: where it is in the list, and how many pass before it
pub record Found {X : Type 0} (p : X → Bool) (xs : List X) (j : ℕ) (x : X) : Type 0 where
  pub index : ℕ
  pub got : slice_get xs index ≡ Some x
  pub passes : p x ≡ true
  pub rank : count_by p (take index xs) ≡ j

-- each element of a filter stands in the list after as many that pass
pub found : {X : Type 0} (p : X → Bool) (xs : List X) (j : ℕ) (x : X) → slice_get (filter p xs) j ≡ Some x → Found p xs j x
found p [] j x h = cc
found {X} p (y ∷ xs) j x h =
    by_test (p y)
    (λ t. first j t (ap (λ l. slice_get l j) (sym (cond-true {A = List X} (p y) (y ∷ filter p xs) (filter p xs) t)) ∙ h) (found p xs))
    (λ f. later j j 0 (cond-false {A = ℕ} (p y) 1 0 f) (omega arith) (found p xs j x (ap (λ l. slice_get l j) (sym (cond-false {A = List X} (p y) (y ∷ filter p xs) (filter p xs) f)) ∙ h)))
  where
    later : (i j c : ℕ) → cond (p y) 1 0 ≡ c → j ≡ c + i → Found p xs i x → Found p (y ∷ xs) j x
    later i j c e s r = record { index = suc r.index; got = r.got; passes = r.passes; rank = omega (arith, counted p y xs r.index, e, s, r.rank) }

    first : (j : ℕ) → p y ≡ true → slice_get (y ∷ filter p xs) j ≡ Some x → ((i : ℕ) (z : X) → slice_get (filter p xs) i ≡ Some z → Found p xs i z) → Found p (y ∷ xs) j x
    first zero t g rest = let e : y ≡ x = cc in record { index = 0; got = g; passes = ap p (sym e) ∙ t; rank = refl }
    first (suc i) t g rest = later i (suc i) 1 (cond-true {A = ℕ} (p y) 1 0 t) (omega arith) (rest i x g)

-- an element of a list's first elements is one of the list
pub got_of_take : {X : Type 0} (xs : List X) (k j : ℕ) (x : X) → slice_get (take k xs) j ≡ Some x → (slice_get xs j ≡ Some x) × (j < k)
got_of_take [] zero j x h = cc
got_of_take [] (suc k) j x h = cc
got_of_take (y ∷ xs) zero j x h = cc
got_of_take (y ∷ xs) (suc k) zero x h = (h, omega arith)
got_of_take (y ∷ xs) (suc k) (suc j) x h = let r = got_of_take xs k j x h in (r.0, omega (arith, r.1))

-- taking fewer of taken elements
pub take_fewer : {X : Type 0} (xs : List X) (j k : ℕ) → j ≤ k → take j (take k xs) ≡ take j xs
take_fewer xs zero k h = refl
take_fewer [] (suc j) zero h = absurd (omega (arith, h))
take_fewer [] (suc j) (suc k) h = refl
take_fewer (x ∷ xs) (suc j) zero h = absurd (omega (arith, h))
take_fewer (x ∷ xs) (suc j) (suc k) h = ap (λ l. x ∷ l) (take_fewer xs j k (omega (arith, h)))
