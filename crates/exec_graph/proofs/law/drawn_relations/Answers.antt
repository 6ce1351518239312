-- The laws of what is drawn.
use Rattle.exec_graph.proofs.DrawnLaws.{ends_law, nodes_law, thin_arrows_law}
use Rattle.exec_graph.proofs.law.drawn_relations.Goals as goal

pub returns-clause-nodes : goal.returns-clause-nodes
returns-clause-nodes c = nodes_law

pub returns-clause-ends : goal.returns-clause-ends
returns-clause-ends c = ends_law

pub returns-clause-thin : goal.returns-clause-thin
returns-clause-thin c = thin_arrows_law
