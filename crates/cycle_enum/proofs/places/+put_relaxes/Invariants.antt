-- Each step leaves fewer relaxations.
use Rattle.std.proofs.Common.{length}
use Rattle.cycle_enum.proofs.places.+put_relaxes.Given as goal

abbrev pub decreases-put_relaxes : goal.decreases-put_relaxes
decreases-put_relaxes l = length l.relaxes.now
