-- The search ends, since each step leaves fewer sets.
use Rattle.std.proofs.Common.{length}
use Rattle.cycle_enum.proofs.progress.+have_any.Given as goal

abbrev pub decreases-have_any : goal.decreases-have_any
decreases-have_any l = length l.row.now
