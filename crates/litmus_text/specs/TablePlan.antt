-- The columns that the rows of a printed table are read as, row by row.
-- Source: own.
use Rattle.std.specs.{Prelude.{ℕ, ◌+◌, List, [], ◌∷◌, map}, List.range_with_len}
use Rattle.micro_ops.specs.declared.operation.Micro.{Micro}
use Rattle.arch_trait.specs.{LabelOrder.labels_in, Writing.label_name}
use Rattle.litmus_text.specs.{declared.reading.table.Placed.Placed, TestTable.Column, Placing.op_renumbered}

-- operations with their lines, one in each line from a line on, their locations numbered by a table
abbrev pub placed_from : List (List ℕ) → (ℕ → List ℕ) → ℕ → List Micro → List Placed
placed_from table names n [] = []
placed_from table names n (op ∷ code) = record { op = op_renumbered table names op; at_line = n } ∷ placed_from table names (n + 1) code

-- the names of so many labels
abbrev pub label_table : ℕ → List (List ℕ)
label_table count = map label_name (range_with_len 0 count)

-- the column of the first operations of a thread, if its first row is at this line
abbrev pub column_so_far : List (List ℕ) → (ℕ → List ℕ) → ℕ → List Micro → Column
column_so_far table names n code = record {
  ops = placed_from table names n code;
  labels = label_table (labels_in 0 code);
}
