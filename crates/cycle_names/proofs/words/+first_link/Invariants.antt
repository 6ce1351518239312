-- The search for a link ends, since each step leaves fewer edges.
use Rattle.std.proofs.Common.{length}
use Rattle.cycle_names.proofs.words.+first_link.Given as goal

abbrev pub decreases-first_link : goal.decreases-first_link
decreases-first_link l = length l.edges.now
