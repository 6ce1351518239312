-- That `spill` sends nothing where the page holds few bytes.
use Rattle.diy_io.specs.PageLaws.{not_spilled}
use Rattle.diy_io.proofs.page.Page.spill.Goals as goal

pub returns-then-self-lt-SPILL-clause-sends : goal.returns-then-self-lt-SPILL-clause-sends
returns-then-self-lt-SPILL-clause-sends g c = not_spilled _ _ _
