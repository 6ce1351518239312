-- Pieces of a text, one after another.
use Rattle.std.specs.{Prelude.{ℕ, List, [], ◌++◌, fold}, Borrow.Bor}

-- the pieces joined in order
abbrev pub joined_text : List (Bor (List ℕ)) → List ℕ
joined_text pieces = fold (λ text piece. text ++ piece.now) [] pieces
