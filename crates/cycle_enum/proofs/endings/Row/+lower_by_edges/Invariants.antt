-- The lowering ends, since each step leaves fewer edges.
use Rattle.std.proofs.Common.{length}
use Rattle.cycle_enum.proofs.endings.Row.+lower_by_edges.Given as goal

abbrev pub decreases-lower_by_edges : goal.decreases-lower_by_edges
decreases-lower_by_edges l = length l.edges.now
