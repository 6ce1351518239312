-- The words of a text.
-- Source: own.
use Rattle.std.specs.{Prelude.{ℕ, Bool, true, false, ◌||◌, ◌==◌, not, List, [], ◌∷◌, Option, Some, None}, List.{filter, slice_split}}
use Rattle.text_parts.specs.Blanks.{is_blank}

-- a text is empty
abbrev pub is_nil : List ℕ → Bool
is_nil [] = true
is_nil (byte ∷ text) = false

-- the nonempty pieces of a text between blanks
unfoldable pub words : List ℕ → List (List ℕ)
words text = filter (λ word. not (is_nil word)) (slice_split is_blank text)

-- the words of a text, given its first word and the text after it, or none
abbrev pub words_seen : Option (List ℕ × List ℕ) → List (List ℕ)
words_seen None = []
words_seen (Some parts) = parts.0 ∷ words parts.1

-- a byte that is neither a blank nor a `(`
abbrev pub is_argument_byte : ℕ → Bool
is_argument_byte byte = not (is_blank byte || byte == 40)
