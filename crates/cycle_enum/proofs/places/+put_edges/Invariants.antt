-- Each step leaves fewer edges.
use Rattle.std.proofs.Common.{length}
use Rattle.cycle_enum.proofs.places.+put_edges.Given as goal

abbrev pub decreases-put_edges : goal.decreases-put_edges
decreases-put_edges l = length l.edges.now
