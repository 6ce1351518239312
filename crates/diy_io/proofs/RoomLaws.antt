-- What a page, or a sink in memory, of bounded room keeps.
use Rattle.std.proofs.{Common.{◌≡◌, ℕ, ◌+◌, ◌≤◌, List, ◌++◌, length, take, arith, length-append}, lemmas.List.take_all, Math.Seq.take-append-add}

-- a text that fits is kept whole
pub took_all : (room : ℕ) (taken text : List ℕ) → length taken + length text ≤ room → take room (taken ++ text) ≡ taken ++ text
took_all room taken text h = take_all room (taken ++ text) (omega (arith, length-append taken text))

-- of another text what fits is kept
pub took_prefix : (room n : ℕ) (taken text : List ℕ) → length taken + n ≡ room → take room (taken ++ text) ≡ taken ++ take n text
took_prefix room n taken text h = grind (arith, take-append-add)
