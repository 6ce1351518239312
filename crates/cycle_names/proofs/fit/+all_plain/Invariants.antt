-- The test of each access ends, since each step leaves fewer edges.
use Rattle.std.proofs.Common.{length}
use Rattle.cycle_names.proofs.fit.+all_plain.Given as goal

abbrev pub decreases-all_plain : goal.decreases-all_plain
decreases-all_plain l = length l.edges.now
