-- The bytes of locations' names may be in lines, cells and words of a printed test, and so may all bytes of names and numbers
-- (`place_passes` of `text_parts` and the laws next to it).
-- Source: own.
use Rattle.std.proofs.{Common.{◌≡◌, ℕ, true, arith}, lemmas.Bool.Decides.nat_tests}
use Rattle.text_parts.specs.Names.{is_place_byte}
use Rattle.arch_trait.specs.{Cells.{is_line_byte, is_cell_byte}, WordBytes.is_instruction_byte}

-- a byte of a location's name may be in a line
pub place_on_line : (byte : ℕ) → is_place_byte byte ≡ true → is_line_byte byte ≡ true
place_on_line byte h = grind (arith, nat_tests)

-- a byte of a location's name may be in a cell
pub place_in_cell : (byte : ℕ) → is_place_byte byte ≡ true → is_cell_byte byte ≡ true
place_in_cell byte h = grind (arith, nat_tests)

-- a byte of a location's name may be in a word: it is neither a blank nor a comma
pub place_in_word : (byte : ℕ) → is_place_byte byte ≡ true → is_instruction_byte byte ≡ true
place_in_word byte h = grind (arith, nat_tests)
