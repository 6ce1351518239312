-- Rows are appended as long as there is room.
use Rattle.litmus_text.specs.declared.parts.TextPart.TheVariants as parts
use Rattle.litmus_text.proofs.{Vocabulary.{PutsPart, Some, ap, arith, length, refl, subst, test_seen, ◌≡◌, ◌≢◌}, TextParts.{no_parts, rows_more, rows_put}}
use Rattle.litmus_text.proofs.parts.put_rows.Goals as goal

pub loop-row-init : goal.loop-row-init
loop-row-init g c = record { rows = no_parts _ _ _ _ _ (omega arith); begun = λ e. refl }

pub loop-row-preserved : goal.loop-row-preserved
loop-row-preserved g c = record {
  rows =
      rows_more g.A.Arch.writing (test_seen c.args.test.now) c.args.table.now.rows c.args.first c.loop-row.row _ _ _ c.loop-row.left _ c.requires.kept.rows c.loop-row.invariant.rows
      (omega (arith, ap (λ table. table.rows) c.table.view_is)) (rw c.as_slice-threads.ensures.value at c.print_row.ensures.text)
      (omega (arith, rw c.as_slice-threads.ensures.value at c.print_row.ensures.short, ap length c.as_slice-threads.ensures.value));
  begun = λ e. absurd (omega arith);
}

pub returns-then-left-room : goal.returns-then-left-room
returns-then-left-room g c =
    let later : c.loop-row.row ≢ c.args.first = λ e. omega (arith, c.loop-row.invariant.begun e) in
    rows_put g.A.Arch.writing (test_seen c.args.test.now) c.args.table.now.rows c.args.first c.loop-row.row _ _ c.loop-row.left c.requires.kept.rows c.loop-row.invariant.rows
    (omega (arith, later)) (omega (arith, ap (λ table. table.rows) c.table.view_is))

pub returns : goal.returns
returns g c =
    let same = ap (λ table. table.rows) c.table.view_is in
    let last : c.loop-row.row ≡ c.table.inside.rows = omega (arith, same) in
    subst (λ row. PutsPart g.A.Arch.writing (test_seen c.args.test.now) (parts.Row c.args.first) c.args.page.now c.loop-row.page (Some (parts.Row row))) last
    (rows_put g.A.Arch.writing (test_seen c.args.test.now) c.args.table.now.rows c.args.first c.loop-row.row _ _ c.loop-row.left c.requires.kept.rows c.loop-row.invariant.rows
    (omega (arith, same)) (omega (arith, same)))
