-- The first bytes of a text of which all were copied.
use Rattle.std.proofs.Common.{arith}
use Rattle.diy_io.proofs.PageLemmas.{first_is}
use Rattle.diy_io.proofs.page.Page.put_first.Goals as goal

pub returns-then-self : goal.returns-then-self
returns-then-self g c =
    first_is _ c.args.count c.self.inside.bytes _ _ c.args.text.now c.self.invariant c.self.told c.self.view_is (omega arith) (omega arith) c.copy_to.ensures
