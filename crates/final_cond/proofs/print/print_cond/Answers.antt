-- That `print_cond` writes the text of a condition.
use Rattle.final_cond.proofs.PrintLaws.{put_wrote}
use Rattle.final_cond.proofs.print.print_cond.Goals as goal

pub returns : goal.returns
returns g c = put_wrote _ _ _ _ _ _ c.new-page.ensures c.put_cond.ensures.text c.put_cond.ensures.short c.flush.ensures.wrote
