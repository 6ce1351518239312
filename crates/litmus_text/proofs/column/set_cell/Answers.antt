-- The cell of a row is the header, an instruction, or nothing.
use Rattle.litmus_text.proofs.{Vocabulary.{arith, refl, thread_code_of, ◌-◌}, TableLaws.{header_cell, op_cell, no_cell}}
use Rattle.litmus_text.proofs.column.set_cell.Goals as goal

pub returns-then-row-eq0 : goal.returns-then-row-eq0
returns-then-row-eq0 g c =
    header_cell g.A.Arch.writing c.args.places.now (c.args.thread, thread_code_of c.args.code.now) c.args.row _ _ _ _ (omega arith) c.clear.ensures c.push_str.ensures.bytes c.push_number.ensures refl

pub returns-in-Some : goal.returns-in-Some
returns-in-Some g c =
    op_cell g.A.Arch.writing c.args.places.now (c.args.thread, thread_code_of c.args.code.now) c.args.row (c.args.row - 1) c.in-Some.op.now c.as_slice.result.now c.print.new.out.bytes
    (omega arith) c.as_slice.ensures.value c.in-Some.ensures.lookup.3.0 c.in-Some.ensures.lookup.1 c.print.ensures

pub returns-in_default : goal.returns-in_default
returns-in_default g c =
    no_cell g.A.Arch.writing c.args.places.now (c.args.thread, thread_code_of c.args.code.now) c.args.row (c.args.row - 1) c.as_slice.result.now c.clear.new.self.bytes
    (omega arith) c.as_slice.ensures.value c.in_default.ensures.lookup.3 c.clear.ensures
