-- The search ends, since each step leaves fewer sets.
use Rattle.std.proofs.Common.{length}
use Rattle.cycle_enum.proofs.progress.+have_common.Given as goal

abbrev pub decreases-have_common : goal.decreases-have_common
decreases-have_common l = length l.row.now
