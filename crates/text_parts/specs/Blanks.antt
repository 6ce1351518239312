-- Blanks, and a text without the blanks at its ends.
-- Source: own; a blank is a space or a tab.
use Rattle.std.specs.Prelude.{ℕ, Bool, ◌||◌, ◌==◌, not, cond, List, [], ◌∷◌}
use Rattle.text_parts.specs.LeadingRuns.{after_run}

-- a space or a tab
abbrev pub is_blank : ℕ → Bool
is_blank byte = byte == 32 || byte == 9

-- any other byte
abbrev pub is_inked : ℕ → Bool
is_inked byte = not (is_blank byte)

-- a text without the blanks at its start
abbrev pub unblanked : List ℕ → List ℕ
unblanked text = after_run is_blank text

-- a byte put before a text that has no blanks at its end; a blank before the empty text is dropped
abbrev pub kept_before : ℕ → List ℕ → List ℕ
kept_before b [] = cond (is_blank b) [] (b ∷ [])
kept_before b (c ∷ text) = b ∷ c ∷ text

-- a text without the blanks at its end
unfoldable pub before_blanks : List ℕ → List ℕ
before_blanks [] = []
before_blanks (b ∷ text) = kept_before b (before_blanks text)

-- a text without the blanks at both ends
abbrev pub trim_blanks : List ℕ → List ℕ
trim_blanks text = before_blanks (unblanked text)
