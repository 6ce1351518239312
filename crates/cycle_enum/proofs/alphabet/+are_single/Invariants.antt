-- The test of each relaxation ends, since each step leaves fewer relaxations.
use Rattle.std.proofs.Common.{length}
use Rattle.cycle_enum.proofs.alphabet.+are_single.Given as goal

abbrev pub decreases-are_single : goal.decreases-are_single
decreases-are_single l = length l.relaxes.now
