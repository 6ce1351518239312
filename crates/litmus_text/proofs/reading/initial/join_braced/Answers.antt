-- The text of the items ends at the first `}`, or with the lines.
use Rattle.litmus_text.proofs.{Vocabulary.{joined_seen, text_left, ◌∙◌}, ItemLoops.{brace_found, brace_missing, brace_further}}
use Rattle.litmus_text.proofs.reading.initial.join_braced.Goals as goal

pub returns-in-Some : goal.returns-in-Some
returns-in-Some c =
    brace_found (joined_seen c.lines.joined) (joined_seen c.push.new.self) c.lines.number c.lines.text.now c.in-Some.prefix.now c.in-Some.remainder.now (text_left c.lines.rest) c.in-Some.ensures.cut c.in_ok-push.ensures
    ∙ c.lines.invariant

pub returns-in-Ends : goal.returns-in-Ends
returns-in-Ends c =
    brace_missing (joined_seen c.lines.joined) (joined_seen c.push-in-lines.new.self) c.lines.number c.lines.text.now (text_left c.lines.rest) c.in-Ends.end c.in_default.ensures.cut c.in-Ends.ensures.lines c.in_ok-push-2.ensures
    ∙ c.lines.invariant

pub lines-preserved : goal.lines-preserved
lines-preserved c =
    brace_further (joined_seen c.lines.joined) (joined_seen c.push-in-lines.new.self) (joined_seen c.push-in-Line.new.self) c.lines.number c.in-Line.line.number c.lines.text.now c.in-Line.line.text.now
    (text_left c.lines.rest) (text_left c.in-Line.line.rest) c.in_default.ensures.cut c.in-Line.ensures.lines c.in_ok-push-2.ensures c.in_ok-push-in-Line.ensures
    ∙ c.lines.invariant
