-- Each line that is left is joined to the text after a blank.
use Rattle.litmus_text.proofs.{Vocabulary.{joined_seen, text_left, ◌∙◌}, ItemLoops.{joined_ends, joined_more}}
use Rattle.litmus_text.proofs.reading.joined.Joined.push_all.Goals as goal

pub loop-line-preserved : goal.loop-line-preserved
loop-line-preserved c =
    joined_more (joined_seen c.loop-line.self) (joined_seen c.push.new.self) (joined_seen c.push-in-Line.new.self) (text_left c.loop-line.left) (text_left c.in-Line.line.rest) c.in-Line.line.number c.in-Line.line.text.now
    c.in-Line.ensures.lines c.in_ok-push.ensures c.in_ok-push-2.ensures
    ∙ c.loop-line.invariant

pub returns : goal.returns
returns c = joined_ends (joined_seen c.loop-line.self) (text_left c.loop-line.left) c.in_default.field-0 c.in_default.ensures.lines ∙ c.loop-line.invariant
