-- The rows so far, and the next one.
use Rattle.cycle_enum.specs.Endings.{RowsBelow}
use Rattle.cycle_enum.proofs.endings.rows_to.Given as goal

abbrev pub invariant-loop-left : goal.invariant-loop-left
invariant-loop-left l = RowsBelow l.relaxes l.fn.end l.rows.items l.left l.row
