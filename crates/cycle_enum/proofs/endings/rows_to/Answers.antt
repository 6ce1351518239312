-- Each row has bounds for one more edge than the one before.
use Rattle.cycle_enum.proofs.Ending.{rows_first, rows_next, rows_all}
use Rattle.cycle_enum.proofs.endings.rows_to.Goals as goal

pub loop-left-init : goal.loop-left-init
loop-left-init c = rows_first c.args.relaxes.now c.args.end _ _ c.new-rows.ensures (c.without_edges-row.ensures c.args.relaxes.now)

pub loop-left-preserved : goal.loop-left-preserved
loop-left-preserved c = rows_next c.args.relaxes.now c.args.end _ _ _ _ _ c.loop-left.invariant c.push.ensures.items c.further-row.ensures

pub returns : goal.returns
returns c = rows_all c.args.relaxes.now c.args.end _ _ _ _ c.loop-left.invariant c.push-2.ensures.items
