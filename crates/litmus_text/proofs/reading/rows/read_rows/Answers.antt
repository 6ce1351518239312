-- The rows are read one after another, up to the line that ends them.
use Rattle.litmus_text.proofs.{Vocabulary.{arith, cells_seen, column_seen, err_from_is_err_and, map, sym, text_left, with_places, ◌∙◌}, GiveLaws.fails_map}
use Rattle.litmus_text.proofs.TableLoops.{rows_fail, rows_more}
use Rattle.litmus_text.proofs.reading.rows.read_rows.Goals as goal

pub returns-in_err-read_row : goal.returns-in_err-read_row
returns-in_err-read_row g c =
    let p = err_from_is_err_and c.from_residual.result c.from_residual.ensures.1 in
    rw (p.1, p.2) (fails_map c.in_err-read_row.field-0.0 _ _
    (λ f h. sym c.rows.invariant.same ∙ rows_fail g.A.Arch.writing c.rows.rows c.in-Line.line.number (with_places c.rows.names (map column_seen c.rows.columns)) (text_left c.rows.left) (text_left c.in-Line.line.rest)
    c.in-Line.line.text.now (cells_seen c.cells_of.result) f c.in-Line.ensures.lines (sym c.ends_rows.ensures ∙ c.if-ends_rows.false) c.if-rows-ge-MAX_ROWS.false c.cells_of.ensures h)
    c.in_err-read_row.ensures)

pub rows-preserved : goal.rows-preserved
rows-preserved g c = record {
  same = rows_more g.A.Arch.writing c.rows.rows c.in-Line.line.number (with_places c.rows.names (map column_seen c.rows.columns)) (with_places c.read_row.new.names (map column_seen c.read_row.new.columns)) (text_left c.rows.left)
      (text_left c.in-Line.line.rest) c.in-Line.line.text.now (cells_seen c.cells_of.result) c.in-Line.ensures.lines (sym c.ends_rows.ensures ∙ c.if-ends_rows.false) c.if-rows-ge-MAX_ROWS.false
      c.cells_of.ensures c.in_ok-read_row.ensures
      ∙ c.rows.invariant.same;
  few = let k = c.if-rows-ge-MAX_ROWS.false in omega arith;
}
