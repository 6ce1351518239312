-- A word beside its arrow adds nothing.
use Rattle.exec_graph.proofs.SentLines.{no_side_word}
use Rattle.exec_graph.proofs.strokes.send_side_word.Goals as goal

pub returns-in-Beside : goal.returns-in-Beside
returns-in-Beside g c = no_side_word _ _ c.args.stroke.now _ c.args.stroke.now.side _ _ _ c.in-Beside.is
