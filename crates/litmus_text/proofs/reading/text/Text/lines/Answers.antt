-- Where no byte is left, no line is.
use Rattle.litmus_text.proofs.{Vocabulary.{sym, ◌∙◌}, LineLaws.lines_end}
use Rattle.litmus_text.proofs.reading.text.Text.lines.Goals as goal

pub returns-clause-lines : goal.returns-clause-lines
returns-clause-lines c = lines_end c.loop-left.left.number c.loop-left.left.bytes.now (sym c.loop-left-test.ensures) ∙ c.loop-left.invariant.same
