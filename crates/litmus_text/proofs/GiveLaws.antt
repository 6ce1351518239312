-- What a part answers where a part of it fails.
use Rattle.litmus_text.proofs.Vocabulary.{Err, GivesInMemory, ReadError, Result, TextError, arith, ◌≡◌}

-- an error is what a definition gives, or there is no memory
abbrev pub Fails : {Y : Type 0} → ReadError → Result Y TextError → Type 0
Fails e read = GivesInMemory (λ y. y) (Err e) read

-- a part that fails as a part of it does gives the same error
pub fails_map : {Y Z : Type 0} (e : ReadError) (a : Result Y TextError) (b : Result Z TextError) → ((f : TextError) → a ≡ Err f → b ≡ Err f) → Fails e a → Fails e b
fails_map e a b h k = grind arith
