-- The comparison ends, since each step leaves fewer edges.
use Rattle.std.proofs.Common.{length}
use Rattle.cycle_names.specs.Fitting.{in_order}
use Rattle.cycle_names.proofs.fit.+are_below.Given as goal

abbrev pub decreases-are_below : goal.decreases-are_below
decreases-are_below l = length (in_order l.edges)
