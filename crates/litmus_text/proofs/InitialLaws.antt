-- The initial state, thread by thread.
use Rattle.litmus_text.proofs.Vocabulary.{Bool, List, ThreadCode, Writing, [], append-nil, arith, codes, eqb-false, eqb-true, false, flat_map, item_text, items_lines, join_by, length, nat_eq, sym, true, with_line_feed, ℕ, ◌++◌, ◌∙◌, ◌≡◌, ◌≢◌}

-- the lines of the items of a thread, as they are printed
abbrev pub printed_items : Writing → List (List ℕ) → ℕ × ThreadCode → List ℕ
printed_items w places t = flat_map with_line_feed (items_lines w places t.0 t.1.links)

-- without items there is no line
pub no_items : (w : Writing) (places : List (List ℕ)) (thread : ℕ) (links read : List (ℕ × ℕ)) → read ≡ links → length read ≡ 0 → [] ≡ flat_map with_line_feed (items_lines w places thread links)
no_items w places thread links read e h = grind arith

-- with items there is one line
pub some_items : (w : Writing) (places : List (List ℕ)) (thread : ℕ) (links read : List (ℕ × ℕ)) → read ≡ links → length read ≢ 0
    → join_by (item_text w places thread) (codes " ") read ++ codes "\n" ≡ flat_map with_line_feed (items_lines w places thread links)
some_items w places thread links read e h = grind (arith, append-nil)

-- a number that passes the test of 0 is 0
pub empty_from : (b : Bool) (n : ℕ) → b ≡ nat_eq n 0 → b ≡ true → n ≡ 0
empty_from b n e h = eqb-true n 0 (sym e ∙ h)

-- a number that fails the test of 0 isn't 0
pub some_from : (b : Bool) (n : ℕ) → b ≡ nat_eq n 0 → b ≡ false → n ≢ 0
some_from b n e h = eqb-false n 0 (sym e ∙ h)
