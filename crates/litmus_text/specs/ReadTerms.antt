-- The terms of a printed condition.
-- Source: own.
use Rattle.std.specs.Prelude.{◌≡◌, ℕ, Bool, true, ◌&&◌, nat_lt, is_some, List, [], ◌∷◌}
use Rattle.final_cond.specs.{Conditions.{LeftSeen, InRegister, AtPlace, TermSeen}, ConditionReadBack.IsFormedTerm}
use Rattle.arch_trait.specs.{PlaceNames.{number_in, names_added}, Writing.Writing}

-- the table after a term's location was mentioned
abbrev pub left_mention : List (List ℕ) → LeftSeen → List (List ℕ)
left_mention s (InRegister thread name) = s
left_mention s (AtPlace name) = names_added s name

-- the table after the locations of all terms were mentioned
abbrev pub terms_mention : List (List ℕ) → List TermSeen → List (List ℕ)
terms_mention s [] = s
terms_mention s (term ∷ terms) = terms_mention (left_mention s term.left) terms

-- a left side is a register that tests use, of a thread of the test, or a location of a table
abbrev pub is_known : Writing → ℕ → List (List ℕ) → LeftSeen → Bool
is_known w threads table (InRegister thread name) = nat_lt thread threads && is_some (number_in w.registers name)
is_known w threads table (AtPlace name) = is_some (number_in table name)

-- a term that reads back: it is formed, and its left side is known
pub record TermFits (w : Writing) (threads : ℕ) (table : List (List ℕ)) (term : TermSeen) : Type 0 where
  pub formed : IsFormedTerm term
  pub known : is_known w threads table term.left ≡ true
