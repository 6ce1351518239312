-- `StateTable::is_written_at` is true only where the text is read as the state at the index.
use Rattle.log_sum.proofs.EntryLaws.{kept_written}
use Rattle.log_sum.proofs.state_table.StateTable.is_written_at.Goals as goal

pub returns : goal.returns
returns c = kept_written c.args.self.now.sums.entries.items c.args.i c.args.text.now c.has_text.result c.args.self.now.are_written c.has_text.ensures
