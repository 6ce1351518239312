-- A cell with a label is read as the label, and then as what comes after it.
use Rattle.litmus_text.proofs.{Vocabulary.{column_seen, with_places}, TableLoops.cell_labelled}
use Rattle.litmus_text.proofs.reading.rows.read_one_cell.Goals as goal

pub returns-in_ok-read_instr-in-Some : goal.returns-in_ok-read_instr-in-Some
returns-in_ok-read_instr-in-Some g c =
    rw (cell_labelled g.A.Arch.writing c.args.number c.args.text.now c.in-Some.label.now c.in-Some.remainder.now (with_places c.args.names.now (column_seen c.args.column.now))
    (with_places c.read_instr.new.names (column_seen c.read_instr.new.column)) c.in-Some.ensures.cut c.in-Some.ensures.parts c.in_ok-read_instr-in-Some.ensures)
    c.read_instr_or_nothing-in-Some.ensures
