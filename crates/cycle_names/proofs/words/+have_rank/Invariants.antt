-- The test of each edge ends, since each step leaves fewer edges.
use Rattle.std.proofs.Common.{length}
use Rattle.cycle_names.proofs.words.+have_rank.Given as goal

abbrev pub decreases-have_rank : goal.decreases-have_rank
decreases-have_rank l = length l.edges.now
