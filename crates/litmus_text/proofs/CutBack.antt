-- Cuts and splits of printed texts.
use Rattle.litmus_text.proofs.Vocabulary.{All, AllPass-from_list_all, List, [], eq-eqb, false, get_or, is_without, not, not-true, pieces, refl, slice_split_at, slice_split_none, true, ℕ, ◌++◌, ◌==◌, ◌∷◌, ◌≡◌}

none_pass : (sign : ℕ) (text : List ℕ) → is_without sign text ≡ true → All (λ byte. (byte == sign) ≡ false) text
none_pass sign text h i d k = not-true (get_or text i d == sign) (AllPass-from_list_all (λ byte. not (byte == sign)) text h i d k)

-- the first piece of a text is what comes before its first sign
pub piece_back : (sign : ℕ) (prefix remainder : List ℕ) → is_without sign prefix ≡ true → pieces sign (prefix ++ sign ∷ remainder) ≡ prefix ∷ pieces sign remainder
piece_back sign prefix remainder h = slice_split_at (λ byte. byte == sign) prefix sign remainder (none_pass sign prefix h) (eq-eqb sign sign refl)

-- a text without a sign is one piece
pub piece_last : (sign : ℕ) (text : List ℕ) → is_without sign text ≡ true → pieces sign text ≡ text ∷ []
piece_last sign text h = slice_split_none (λ byte. byte == sign) text (none_pass sign text h)
