-- `print_verdict` sends the line of a verdict.
use Rattle.std.proofs.Common.{map, ap, ◌∙◌}
use Rattle.std.specs.Prelude.{decimal}
use Rattle.diy_io.specs.PageLaws.{sends_same}
use Rattle.judged_states.specs.JudgedStates.{judged_view}
use Rattle.judged_states.proofs.JudgedPrinting.{verdict_line_is}
use Rattle.judged_states.proofs.printing.print_verdict.Goals as goal

pub returns : goal.returns
returns g c =
    sends_same _ _ _ _ _ _ c.send_pieces.result c.send_pieces.ensures
    (verdict_line_is (map judged_view c.args.judged.now) c.args.verdict c.verdict_word-word.result.now c.as_bytes-number.result.now c.as_bytes-count.result.now c.verdict_word-word.ensures
    (c.as_bytes-number.ensures.value ∙ c.format.ensures.text ∙ ap decimal c.states_with.ensures) (c.as_bytes-count.ensures.value ∙ c.format-2.ensures.text ∙ ap decimal c.count_with.ensures))
