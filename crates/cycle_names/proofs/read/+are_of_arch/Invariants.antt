-- The test of each edge ends, since each step leaves fewer edges.
use Rattle.std.proofs.Common.{length}
use Rattle.cycle_names.proofs.read.+are_of_arch.Given as goal

abbrev pub decreases-are_of_arch : goal.decreases-are_of_arch
decreases-are_of_arch l = length l.edges.now
