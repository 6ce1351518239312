-- The marking ends, since each step leaves fewer relaxations.
use Rattle.std.proofs.Common.{length}
use Rattle.cycle_enum.proofs.letters.+mark_relaxes.Given as goal

abbrev pub decreases-mark_relaxes : goal.decreases-mark_relaxes
decreases-mark_relaxes l = length l.relaxes.now
