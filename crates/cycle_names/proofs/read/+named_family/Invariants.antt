-- The search for a family ends, since each step leaves fewer families.
use Rattle.std.proofs.Common.{length}
use Rattle.cycle_names.proofs.read.+named_family.Given as goal

abbrev pub decreases-named_family : goal.decreases-named_family
decreases-named_family l = length l.families.now
