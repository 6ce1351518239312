-- What is sent is the text of the condition.
use Rattle.std.proofs.Common.{◌++◌, ◌∙◌, ap, arith}
use Rattle.std.specs.List.{flat_map}
use Rattle.diy_io.specs.PageLaws.{sends_same}
use Rattle.final_cond.specs.{Conditions.cond_view, CondText.cond_text}
use Rattle.exec_graph.specs.Graphs.{quoted_byte}
use Rattle.exec_graph.proofs.GraphLines.{short_page}
use Rattle.exec_graph.proofs.graph.send_condition_after.Goals as goal

pub returns : goal.returns
returns g c =
    sends_same _ _ _ _ _ _ c.send_quoted_after.result c.send_quoted_after.ensures
    (ap (λ text. c.args.before.now ++ flat_map quoted_byte text)
    (c.as_slice.ensures ∙ short_page c.new-line.result c.put_cond.new.page (cond_text (cond_view c.args.cond.now)) c.new-line.ensures
    c.put_cond.ensures.text (omega (arith, c.put_cond.ensures.short))))
