-- Elements that are judged in order, each against those before it; the first error counts.
use Rattle.std.specs.Prelude.{List, [], ◌∷◌, ◌++◌, Result, Ok, Err}

-- each element of the list, paired with all that come before it: `before`, then the earlier elements
abbrev pub with_before : {A : Type 0} → List A → List A → List (List A × A)
with_before before [] = []
with_before before (x ∷ xs) = (before, x) ∷ with_before (before ++ x ∷ []) xs

-- the first error, or the value if there is none
abbrev pub unless : {A E : Type 0} → List E → A → Result A E
unless [] x = Ok x
unless (error ∷ errors) x = Err error
