-- The laws of the arrows of edges.
use Rattle.exec_graph.proofs.ArrowLaws.{dashed_arrows_law, standing_arrows_law}
use Rattle.exec_graph.proofs.law.drawn_edges.Goals as goal

pub returns-clause-bold : goal.returns-clause-bold
returns-clause-bold c = standing_arrows_law

pub returns-clause-dashed : goal.returns-clause-dashed
returns-clause-dashed c = dashed_arrows_law
