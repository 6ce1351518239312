-- That `flush` writes nothing where the page is empty.
use Rattle.std.proofs.Common.{take, sym, ap, ◌∙◌}
use Rattle.diy_io.specs.WroteLaws.{wrote_nothing}
use Rattle.diy_io.proofs.page.Page.flush.Goals as goal

pub returns-then-self-eq0-clause-wrote : goal.returns-then-self-eq0-clause-wrote
returns-then-self-eq0-clause-wrote g c = wrote_nothing _ _ (ap (λ n. take n c.self.inside.bytes) (sym c.if-self-eq0.true) ∙ c.self.view_is)
