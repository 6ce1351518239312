-- Nothing is sent of any other edge.
use Rattle.exec_graph.proofs.SentLines.{unless_passing}
use Rattle.exec_graph.proofs.graph.send_if_stands.Goals as goal

pub returns : goal.returns
returns g c = unless_passing _ _ _ _ _ (c.if-arrow.false)
