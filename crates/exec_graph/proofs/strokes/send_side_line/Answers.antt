-- A word on its arrow has no line.
use Rattle.exec_graph.proofs.SentLines.{no_side_line}
use Rattle.exec_graph.proofs.strokes.send_side_line.Goals as goal

pub returns-in-OnArrow : goal.returns-in-OnArrow
returns-in-OnArrow g c = no_side_line _ _ c.args.relation _ c.args.side _ c.in-OnArrow.is
