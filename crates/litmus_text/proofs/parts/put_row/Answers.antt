-- The part of a row is its line, with later ones, and after the last row the condition.
use Rattle.litmus_text.proofs.{Vocabulary.{ap, arith, test_seen}, TextParts.condition_put}
use Rattle.litmus_text.proofs.parts.put_row.Goals as goal

pub returns-else-row-table : goal.returns-else-row-table
returns-else-row-table g c =
    condition_put g.A.Arch.writing (test_seen c.args.test.now) c.args.table.now.rows c.args.row _ _ c.requires.kept.rows
    (omega (arith, c.if-row-table.false, ap (λ table. table.rows) c.table.view_is))
    c.print_condition.ensures.text c.print_condition.ensures.short
