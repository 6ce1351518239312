-- Lines of a text and their ends.
-- Source: own.
use Rattle.std.specs.{Prelude.{ℕ, ◌==◌, Bool, cond, List, [], ◌∷◌, ◌++◌, map}, List.slice_split}

-- the byte that ends a line
abbrev pub is_line_feed : ℕ → Bool
is_line_feed byte = byte == 10

-- a line without the carriage return at its end, if it has one
unfoldable pub without_return : List ℕ → List ℕ
without_return [] = []
without_return (byte ∷ []) = cond (byte == 13) [] (byte ∷ [])
without_return (byte ∷ next ∷ text) = byte ∷ without_return (next ∷ text)

-- all pieces of a text except the last
abbrev pub but_last : List (List ℕ) → List (List ℕ)
but_last [] = []
but_last (piece ∷ []) = []
but_last (piece ∷ next ∷ rest) = piece ∷ but_last (next ∷ rest)

-- the last piece of a text; with no pieces, the empty text
abbrev pub last_of : List (List ℕ) → List ℕ
last_of [] = []
last_of (piece ∷ []) = piece
last_of (piece ∷ next ∷ rest) = last_of (next ∷ rest)

-- the lines that a line feed ends, each without it
unfoldable pub whole_lines : List ℕ → List (List ℕ)
whole_lines text = but_last (slice_split is_line_feed text)

-- the lines that a line feed ends, each without it and without a carriage return right before it
unfoldable pub ended_lines : List ℕ → List (List ℕ)
ended_lines text = map without_return (whole_lines text)

-- what comes after the last line feed, or the whole text if it has none
unfoldable pub unended : List ℕ → List ℕ
unended text = last_of (slice_split is_line_feed text)

-- what comes after the last line feed is a line unless it is empty
abbrev pub last_line : List ℕ → List (List ℕ)
last_line [] = []
last_line (byte ∷ bytes) = (byte ∷ bytes) ∷ []

-- all lines of a text
abbrev pub lines_of : List ℕ → List (List ℕ)
lines_of text = ended_lines text ++ last_line (unended text)
