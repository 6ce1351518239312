-- The test of each rank ends, since each step leaves fewer ranks.
use Rattle.std.proofs.Common.{length}
use Rattle.cycle_enum.proofs.letters.+are_marked.Given as goal

abbrev pub decreases-are_marked : goal.decreases-are_marked
decreases-are_marked l = length l.ranks.now
