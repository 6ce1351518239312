-- The row that is looked up is the one for the end of the list.
use Rattle.std.proofs.Common.{◌<◌, length, rules}
use Rattle.cycle_enum.proofs.Ending.{row_begun}
use Rattle.cycle_enum.proofs.endings.Endings.may_end.Goals as goal

pub returns-else-left-rows : goal.returns-else-left-rows
returns-else-left-rows c fails relaxes has =
    let less : c.args.left < length c.rows_to-rows.result.now = search rules in
    c.may_end.ensures fails relaxes c.args.left
    (row_begun relaxes c.args.self.now c.args.list.now c.left_by.result _ c.rows_to-rows.result.now c.args.left _ c.in-len1-up.len_at_least c.left_by.ensures c.rows_to-rows.ensures has less)
