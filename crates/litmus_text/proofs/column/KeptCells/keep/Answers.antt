-- One more text is kept where there is room.
use Rattle.litmus_text.proofs.{Vocabulary.{KEPT_CELLS, ap, arith, length, length-map, length-take, map, text_in}, KeptLaws.{text_kept, text_lost}}
use Rattle.litmus_text.proofs.column.KeptCells.keep.Goals as goal

pub returns-then-self-lt-KEPT_CELLS : goal.returns-then-self-lt-KEPT_CELLS
returns-then-self-lt-KEPT_CELLS c =
    text_kept text_in KEPT_CELLS c.self.inside.count c.self.inside.cells _ c.args.self.now c.args.cell.now.bytes (omega arith) (omega arith) c.self.view_is c.set.ensures

pub returns-else-self-lt-KEPT_CELLS : goal.returns-else-self-lt-KEPT_CELLS
returns-else-self-lt-KEPT_CELLS c =
    text_lost KEPT_CELLS c.args.self.now c.args.cell.now.bytes
    (omega (arith, ap length c.self.view_is, length-take c.self.inside.count (map text_in c.self.inside.cells), length-map c.self.inside.cells text_in))
