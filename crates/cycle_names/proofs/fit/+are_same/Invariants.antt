-- The comparison ends, since each step leaves fewer slots.
use Rattle.std.proofs.Common.{length}
use Rattle.cycle_names.proofs.fit.+are_same.Given as goal

abbrev pub decreases-are_same : goal.decreases-are_same
decreases-are_same l = length l.slots.now
