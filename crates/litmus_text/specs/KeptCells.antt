-- What is kept of a table that is printed.
-- Source: own.
use Rattle.std.specs.{Prelude.{◌≡◌, ◌<◌, ◌≤◌, ◌+◌, ℕ, List, [], ◌∷◌, ◌++◌, length, map, take, slice_index_or}, List.All}
use Rattle.arch_trait.specs.{Writing.Writing, SeenTests.TestSeen, declared.arch.TheConstants.MAX_INSTRUCTION_TEXT}
use Rattle.litmus_text.specs.{TestText.{columns_of, width_of, row_count}, declared.column.TheConstants.KEPT_CELLS}

-- the texts of all columns, one column after the other
abbrev pub all_texts : List (List (List ℕ)) → List (List ℕ)
all_texts [] = []
all_texts (column ∷ columns) = column ++ all_texts columns

-- the texts that are kept for a column, whose first text has this index, are the column's
abbrev pub HoldsColumn : List (List ℕ) → ℕ → List (List ℕ) → Type 0
HoldsColumn kept first column =
    (row : ℕ) → row < length column → first + row < length kept → slice_index_or kept (first + row) [] ≡ slice_index_or column row []

-- the first texts of a table, the widths of its columns, and how many rows it has
pub record TableSeen : Type 0 where
  pub texts : List (List ℕ)
  pub widths : List ℕ
  pub rows : ℕ

-- what is kept belongs to the table of a test, and its columns are no wider than the text of an instruction can be
pub record HoldsTable (w : Writing) (test : TestSeen) (table : TableSeen) : Type 0 where
  pub texts : table.texts ≡ take KEPT_CELLS (all_texts (columns_of w test.places test.threads))
  pub widths : table.widths ≡ map width_of (columns_of w test.places test.threads)
  pub rows : table.rows ≡ row_count (columns_of w test.places test.threads)
  pub short : All (λ width. width ≤ MAX_INSTRUCTION_TEXT) table.widths
