-- Two edges are equal exactly where their ranks are.
use Rattle.relax_edges.proofs.Ranks.{rank_decides}
use Rattle.relax_edges.proofs.order.EdgePartialEq.eq.Goals as goal

pub returns-clause-same : goal.returns-clause-same
returns-clause-same c = rw (c.rank.ensures.value, c.rank-2.ensures.value) (rank_decides c.args.self.now c.args.other.now)
