-- The longest prefix of a text whose bytes all pass a test, and what comes after it.
-- Source: own.
use Rattle.std.specs.Prelude.{ℕ, Bool, cond, List, [], ◌∷◌}

-- the longest prefix of the text whose bytes all pass
unfoldable pub leading_run : (ℕ → Bool) → List ℕ → List ℕ
leading_run passes [] = []
leading_run passes (byte ∷ text) = cond (passes byte) (byte ∷ leading_run passes text) []

-- the text from the first byte on that doesn't pass
unfoldable pub after_run : (ℕ → Bool) → List ℕ → List ℕ
after_run passes [] = []
after_run passes (byte ∷ text) = cond (passes byte) (after_run passes text) (byte ∷ text)
