-- The columns so far and the lines that are left give what all rows give.
use Rattle.litmus_text.proofs.Vocabulary.{MAX_ROWS, column_seen, length, map, rows_scanned, text_left, with_places, ◌≡◌, ◌≤◌}
use Rattle.litmus_text.proofs.reading.rows.read_rows.Given as goal

abbrev pub invariant-rows : goal.invariant-rows
invariant-rows g l = record {
  same : rows_scanned g.A.Arch.writing l.rows (with_places l.names (map column_seen l.columns)) (text_left l.left)
      ≡ rows_scanned g.A.Arch.writing 0 (with_places l.fn.names (map column_seen l.fn.columns)) (text_left l.fn.text);
  few : l.rows ≤ MAX_ROWS;
}

abbrev pub decreases-rows : goal.decreases-rows
decreases-rows g l = length l.left.bytes.now
