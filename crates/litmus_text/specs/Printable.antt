-- The bytes of a printed test.
-- Source: own.
use Rattle.std.specs.{Prelude.{◌≡◌, ℕ, ◌==◌, Bool, true, not, ◌&&◌, ◌||◌, nat_le, List, length}, List.list_all}
use Rattle.text_parts.specs.Names.{is_name_byte}
use Rattle.arch_trait.specs.Cells.{is_line_byte}

-- a byte of a row's cells: one of a line that ends neither a cell nor a row
abbrev pub is_row_byte : ℕ → Bool
is_row_byte byte = is_line_byte byte && not (byte == 124 || byte == 59)

-- a name of a test: 1 to 800 bytes that names of tests may have
pub record IsTestName (name : List ℕ) : Type 0 where
  pub some : nat_le 1 (length name) ≡ true
  pub short : nat_le (length name) 800 ≡ true
  pub bytes : list_all is_name_byte name ≡ true
