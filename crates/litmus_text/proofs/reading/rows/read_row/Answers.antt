-- The cells of a row are read one after another, one for each column.
use Rattle.litmus_text.proofs.Vocabulary.{Err, [], ap, arith, column_seen, err_from_is_err_and, length, length-map, map, pieces_left, sym, take, ◌<◌, ◌∙◌, ◌≡◌}
use Rattle.litmus_text.proofs.{GiveLaws.fails_map, TableLoops.row_short, TableLoops.row_step, TableLoops.row_stops, TableLoops.row_ends, TableLoops.row_ends_bad}
use Rattle.litmus_text.proofs.reading.rows.read_row.Goals as goal

pub returns-in_default : goal.returns-in_default
returns-in_default g c =
    let k : c.loop-i.i < length (map column_seen c.loop-i.columns) = rw length-map (omega (arith, c.loop-i.auto.columns)) in
    sym c.loop-i.invariant
    ∙ row_short g.A.Arch.writing c.args.number c.args.cells.whole (pieces_left c.loop-i.pieces) c.loop-i.names (map column_seen c.loop-i.columns) (take c.loop-i.i (map column_seen c.loop-i.columns)) c.loop-i.i
    (record { ops = []; labels = [] }) k c.in_default.ensures
    ∙ ap Err (sym c.error_at_line.ensures)

pub returns-in_err-read_one_cell : goal.returns-in_err-read_one_cell
returns-in_err-read_one_cell g c =
    let p = err_from_is_err_and c.from_residual.result c.from_residual.ensures.1 in
    rw (p.1, p.2) (fails_map c.in_err-read_one_cell.field-0.0 _ _
    (λ f h. sym c.loop-i.invariant ∙ row_stops g.A.Arch.writing c.args.number c.args.cells.whole (pieces_left c.loop-i.pieces) (pieces_left c.in-Some.remainder) c.in-Some.cell.now c.loop-i.names c.loop-i.columns
    (take c.loop-i.i (map column_seen c.loop-i.columns)) c.loop-i.i c.index-columns-i.result f (omega (arith, c.loop-i.auto.columns)) c.in-Some.ensures h)
    c.in_err-read_one_cell.ensures)

pub loop-i-preserved : goal.loop-i-preserved
loop-i-preserved g c =
    row_step g.A.Arch.writing c.args.number c.args.cells.whole (pieces_left c.loop-i.pieces) (pieces_left c.in-Some.remainder) c.in-Some.cell.now c.loop-i.names c.read_one_cell.new.names c.loop-i.columns c.loop-i.i
    c.index-columns-i.result c.read_one_cell.new.column (omega (arith, c.loop-i.auto.columns)) c.in-Some.ensures c.in_ok-read_one_cell.ensures
    ∙ c.loop-i.invariant

pub returns-in_err-judge_end : goal.returns-in_err-judge_end
returns-in_err-judge_end g c =
    let p = err_from_is_err_and c.from_residual-in_err-judge_end.result c.from_residual-in_err-judge_end.ensures.1 in
    let k : c.loop-i.i ≡ length (map column_seen c.loop-i.columns) = rw length-map (omega (arith, c.loop-i.auto.columns)) in
    rw (p.1, p.2)
    (sym c.loop-i.invariant ∙ row_ends_bad g.A.Arch.writing c.args.number c.args.cells.whole (pieces_left c.loop-i.pieces) c.loop-i.names (map column_seen c.loop-i.columns) (take c.loop-i.i (map column_seen c.loop-i.columns)) c.loop-i.i
    c.in_err-judge_end.field-0.0 k (c.in_err-judge_end.ensures g.A.Arch.writing c.loop-i.names))

pub returns : goal.returns
returns g c =
    let k : c.loop-i.i ≡ length (map column_seen c.loop-i.columns) = rw length-map (omega (arith, c.loop-i.auto.columns)) in
    sym c.loop-i.invariant
    ∙ row_ends g.A.Arch.writing c.args.number c.args.cells.whole (pieces_left c.loop-i.pieces) c.loop-i.names (map column_seen c.loop-i.columns) c.loop-i.i k (c.in_ok-judge_end.ensures g.A.Arch.writing c.loop-i.names)
