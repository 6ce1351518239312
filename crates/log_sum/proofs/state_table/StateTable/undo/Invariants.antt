-- `StateTable::undo`: the counts that are left, set back, give the states without the block.
use Rattle.std.proofs.Common.{◌≡◌, map, length}
use Rattle.log_sum.specs.StateEntries.{state_view, counts_back, states_undone}
use Rattle.log_sum.proofs.state_table.StateTable.undo.Given as goal

abbrev pub invariant-loop-i : goal.invariant-loop-i
invariant-loop-i l = counts_back (map state_view l.self.sums.entries.items) l.counts.items ≡ states_undone l.len l.fn.counts.items (map state_view l.fn.self.sums.entries.items)

abbrev pub decreases-loop-i : goal.decreases-loop-i
decreases-loop-i l = length l.counts.items
