-- The bytes of a word in an instruction's text.
use Rattle.std.proofs.Common.{ℕ, ◌==◌, Bool, not, ◌&&◌}
use Rattle.text_parts.specs.Blanks.{is_blank}

-- a byte of a word: neither a blank nor a comma
abbrev pub is_instruction_byte : ℕ → Bool
is_instruction_byte x = not (is_blank x) && not (x == 44)
