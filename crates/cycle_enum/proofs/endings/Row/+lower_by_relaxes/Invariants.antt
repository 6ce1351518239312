-- The lowering ends, since each step leaves fewer relaxations.
use Rattle.std.proofs.Common.{length}
use Rattle.cycle_enum.proofs.endings.Row.+lower_by_relaxes.Given as goal

abbrev pub decreases-lower_by_relaxes : goal.decreases-lower_by_relaxes
decreases-lower_by_relaxes l = length l.relaxes.now
