-- The first line of what is left of a text.
use Rattle.litmus_text.proofs.Vocabulary.{CutParts, List, [], ap, arith, ends, eqb-true, first_piece, is_line_feed, is_without, length, line_kept, lines_from, lines_in, refl, suc, sym, true, without_return, ℕ, ◌+◌, ◌<◌, ◌==◌, ◌∷◌, ◌≡◌}
use Rattle.litmus_text.proofs.{CutBack.piece_last, CutLaws.pieces_cut}

-- a text without bytes has no lines
pub no_lines : (n : ℕ) → lines_from n [] ≡ ends n
unfolding lines_from lines_in
no_lines n = refl

-- the lines of a text that is cut at its first line feed are that line and those of the rest
pub line_cut : (n : ℕ) (text prefix remainder : List ℕ) → CutParts 10 text prefix remainder → lines_from n text ≡ line_kept n (without_return prefix) (lines_from (n + 1) remainder)
unfolding lines_from lines_in
line_cut n text prefix remainder p = grind (arith, (first_piece is_line_feed remainder), (pieces_cut 10 text prefix remainder p))

-- a text without a line feed is one line
pub line_last : (n : ℕ) (text : List ℕ) → 0 < length text → is_without 10 text ≡ true → lines_from n text ≡ line_kept n text (lines_from (n + 1) [])
unfolding lines_from lines_in
line_last n [] h w = absurd (omega arith)
line_last n (b ∷ text) h w = ap (lines_in n) (piece_last 10 (b ∷ text) w)

-- a text that is found to be at its end has no lines
pub lines_end : (n : ℕ) (text : List ℕ) → length text == 0 ≡ true → ends n ≡ lines_from n text
lines_end n [] h = sym (no_lines n)
lines_end n (b ∷ text) h = let e : suc (length text) ≡ 0 = eqb-true (suc (length text)) 0 h in absurd (omega arith)
