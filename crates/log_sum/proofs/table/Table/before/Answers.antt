-- `Table::before` gives what the test at an index is.
use Rattle.std.proofs.Common.{◌<◌, length, arith}
use Rattle.log_sum.proofs.{TableUndoLaws.own_undone, TextPlaceLaws.value_there}
use Rattle.log_sum.proofs.table.Table.before.Goals as goal

pub returns-clause-undone : goal.returns-clause-undone
returns-clause-undone c =
    let entries = c.args.self.now.tests.entries in
    let entry = c.index.result.now in
    let within : c.args.i < length entries.items = omega (arith, c.len.ensures, c.if-i-len.false, entries.ok.0) in
    own_undone c.before-2.result entries.items c.args.i entry.1 (value_there entries.items c.args.i _ entry within c.index.ensures) c.before-2.ensures.undone
