-- The columns so far and the cells that are left give what the row gives.
use Rattle.litmus_text.proofs.{Vocabulary.{column_seen, drop, map, pieces_left, row_read, take, ◌≡◌}, TableLoops.carried}
use Rattle.litmus_text.proofs.reading.rows.read_row.Given as goal

abbrev pub invariant-loop-i : goal.invariant-loop-i
invariant-loop-i g l =
    carried (take l.i (map column_seen l.columns)) (row_read g.A.Arch.writing l.number l.cells.whole (pieces_left l.pieces) l.names (drop l.i (map column_seen l.columns)))
    ≡ row_read g.A.Arch.writing l.number l.cells.whole (pieces_left l.fn.cells.pieces) l.fn.names (map column_seen l.fn.columns)
