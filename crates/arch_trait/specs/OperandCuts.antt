-- A text cut at its first comma.
-- Source: own.
use Rattle.std.specs.{Prelude.{ℕ, ◌≡◌, ◌==◌, List, [], ◌∷◌, Option, Some, None}, List.slice_split, Borrow.Bor}

-- the piece before the first comma and the text after it, or the whole text as the only piece
abbrev pub Cut : Option (Bor (List ℕ) × Bor (List ℕ)) → List ℕ → Type 0
Cut (Some parts) text =
    slice_split (λ x. x == 44) text ≡ parts.0.now ∷ slice_split (λ x. x == 44) parts.1.now
Cut None text = slice_split (λ x. x == 44) text ≡ text ∷ []
