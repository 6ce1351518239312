-- The reading ends, since each step leaves fewer edges.
use Rattle.std.proofs.Common.{length}
use Rattle.cycle_enum.proofs.progress.Progress.+after_all.Given as goal

abbrev pub decreases-after_all : goal.decreases-after_all
decreases-after_all l = length l.ranks.now
