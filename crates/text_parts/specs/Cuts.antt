-- A text that is cut at the first occurrence of a byte.
-- Source: own.
use Rattle.std.specs.{Prelude.{◌≡◌, ℕ, ◌==◌, Bool, true, not, cond, List, [], ◌∷◌, ◌++◌, Option, Some, None}, List.list_all}

-- a byte put before the first part of a cut, if there is one
abbrev pub before_cut : ℕ → Option (List ℕ × List ℕ) → Option (List ℕ × List ℕ)
before_cut byte None = None
before_cut byte (Some parts) = Some (byte ∷ parts.0, parts.1)

-- the text before the first `sign`, and the text after it, if there is one
unfoldable pub cut_at : ℕ → List ℕ → Option (List ℕ × List ℕ)
cut_at sign [] = None
cut_at sign (byte ∷ text) = cond (byte == sign) (Some ([], text)) (before_cut byte (cut_at sign text))

-- no byte of the text is `sign`
abbrev pub is_without : ℕ → List ℕ → Bool
is_without sign text = list_all (λ byte. not (byte == sign)) text

-- the same cut, by its parts: `sign` is between them, and not in the first
pub record CutParts (sign : ℕ) (text prefix remainder : List ℕ) : Type 0 where
  pub parts : text ≡ prefix ++ sign ∷ remainder
  pub first : is_without sign prefix ≡ true
