-- `Table::take_block_out` makes the table what it was before the running block.
use Rattle.std.proofs.Common.{◌<◌, length, sym, ◌∙◌, arith}
use Rattle.log_sum.proofs.{TableUndoLaws.{beyond_stays, block_out, fits_none, new_out}, TextPlaceLaws.{written_is, written_apart, written_placed, value_there}}
use Rattle.log_sum.proofs.table.Table.take_block_out.Goals as goal

pub invariant_of-self-then-self-len : goal.invariant_of-self-then-self-len
invariant_of-self-then-self-len c =
    let tests = c.args.self.now.tests in
    let i = c.args.self.now.running in
    let within : i < length tests.entries.items = omega (arith, c.len.ensures, c.if-self-len.true, tests.entries.ok.0) in
    let there = c.index_mut.ensures.value in
    let entry = c.index_mut.result.now in (
      (written_apart tests.entries.items i _ entry c.undo.new.self within there tests.are_apart, (written_placed tests.entries.items tests.places.entries i _ entry c.undo.new.self within there tests.are_placed, tt)),
      (fits_none _ _ i c.take.ensures.after, tt),
    )

pub returns-then-self-len : goal.returns-then-self-len
returns-then-self-len c =
    let entries = c.args.self.now.tests.entries in
    let i = c.args.self.now.running in
    let within : i < length entries.items = omega (arith, c.len.ensures, c.if-self-len.true, entries.ok.0) in
    let there = c.index_mut.ensures.value in
    let entry = c.index_mut.result.now in
    block_out c.args.self.now.undo.before c.in-Some.before c.args.self.now.undo.counts.items entries.items _ i entry.1 c.undo.new.self (sym c.take.ensures.value ∙ c.in-Some.is)
    (value_there entries.items i _ entry within there) c.undo.ensures (written_is entries.items i _ entry c.undo.new.self within there)

pub returns-else-self-len : goal.returns-else-self-len
returns-else-self-len c =
    let entries = c.args.self.now.tests.entries in
    sym (beyond_stays c.args.self.now.undo.before c.args.self.now.undo.counts.items entries.items c.args.self.now.running (omega (arith, c.len.ensures, c.if-self-len.false, entries.ok.0)))

pub returns-in-None : goal.returns-in-None
returns-in-None c =
    new_out c.args.self.now.undo.before c.args.self.now.undo.counts.items c.args.self.now.tests.entries.items _ c.args.self.now.running (sym c.take.ensures.value ∙ c.in-None.is)
    c.forget_from.ensures
