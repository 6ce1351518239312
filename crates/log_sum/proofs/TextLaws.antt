-- Words that are joined, one after another.
use Rattle.std.proofs.Common.{ℕ, List, [], ◌∷◌, ◌++◌}
use Rattle.log_sum.specs.Texts.{later_words, joined_words}

-- words appended to a text that joins earlier ones
abbrev pub joined_onto : List ℕ → List (List ℕ) → List ℕ
joined_onto [] ws = joined_words ws
joined_onto (b ∷ text) ws = (b ∷ text) ++ later_words ws
