-- The law of the one graph.
use Rattle.exec_check.proofs.OneGraph.{one_graph}
use Rattle.exec_check.proofs.law.one_graph.Goals as goal

pub returns : goal.returns
returns c = one_graph
