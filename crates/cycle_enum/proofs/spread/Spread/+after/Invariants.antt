-- The reading ends, since each step leaves fewer edges.
use Rattle.std.proofs.Common.{length}
use Rattle.cycle_enum.proofs.spread.Spread.+after.Given as goal

abbrev pub decreases-after : goal.decreases-after
decreases-after l = length l.edges.now
