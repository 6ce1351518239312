-- The recursion over the edges ends.
use Rattle.std.proofs.Common.{length}
use Rattle.exec_check.proofs.writing.+send_edges.Given as goal

abbrev pub decreases-send_edges : goal.decreases-send_edges
decreases-send_edges g l = length l.edges.now
