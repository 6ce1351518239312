-- `print_judged` sends the lines of the states, and then those of the verdicts.
use Rattle.diy_io.specs.PageLaws.{sends_then}
use Rattle.judged_states.proofs.printing.print_judged.Goals as goal

pub returns : goal.returns
returns g c = sends_then _ _ _ _ _ _ _ _ _ c.print_verdicts.result c.in_ok-print_states.ensures c.print_verdicts.ensures
