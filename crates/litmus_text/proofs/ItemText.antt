-- The item of a register and a place: how long it is, and when it is written in one piece.
use Rattle.litmus_text.proofs.Vocabulary.{ITEM_ROOM, List, Writing, [], arith, codes, decimal, decimal_digit, get_or, item_text, length, length-append, length-decimal-le, name_in, page_after, separator_at, ℕ, ◌++◌, ◌+◌, ◌<◌, ◌^◌, ◌∷◌, ◌≡◌, ◌≤◌}
use Rattle.litmus_text.proofs.JoinLaws.{separator_short}

-- an item of a thread below 10, of a register of two letters and of a place of one, is seven bytes
pub short_link : (thread : ℕ) (register place page new : List ℕ) → thread < 10 → length register ≡ 2 → length place ≡ 1
    → new ≡ page_after page ((48 + thread) ∷ 58 ∷ get_or register 0 0 ∷ get_or register 1 0 ∷ 61 ∷ get_or place 0 0 ∷ 59 ∷ [])
    → new ≡ page_after page (decimal thread ++ codes ":" ++ register ++ codes "=" ++ place ++ codes ";")
short_link thread [] place page new h i j put = absurd (omega arith)
short_link thread (a ∷ []) place page new h i j put = absurd (omega arith)
short_link thread (a ∷ b ∷ c ∷ register) place page new h i j put = absurd (omega arith)
short_link thread (a ∷ b ∷ []) [] page new h i j put = absurd (omega arith)
short_link thread (a ∷ b ∷ []) (c ∷ d ∷ place) page new h i j put = absurd (omega arith)
short_link thread (a ∷ b ∷ []) (c ∷ []) page new h i j put = cc (decimal_digit thread h)

-- an item has room, with a blank before it
pub item_short : (w : Writing) (places : List (List ℕ)) (i thread : ℕ) (link : ℕ × ℕ) → thread < 2 ^ 64
    → length (name_in w.registers link.0) ≤ 16 → length (name_in places link.1) ≤ 16
    → length (separator_at (codes " ") i ++ item_text w places thread link) ≤ ITEM_ROOM
unfolding item_text
item_short w places i thread link h register place =
    let d = decimal thread in
    let r = name_in w.registers link.0 in
    let p = name_in places link.1 in
    omega (
      arith,
      separator_short (codes " ") i,
      length-decimal-le 20 thread (omega arith) (omega arith) (omega arith),
      length-append (separator_at (codes " ") i) (d ++ codes ":" ++ r ++ codes "=" ++ p ++ codes ";"),
      length-append (d ++ codes ":" ++ r ++ codes "=" ++ p) (codes ";"),
      length-append (d ++ codes ":" ++ r ++ codes "=") p,
      length-append (d ++ codes ":" ++ r) (codes "="),
      length-append (d ++ codes ":") r,
      length-append d (codes ":"),
    )
