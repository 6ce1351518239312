-- That `put` adds as much of a text as there is room for.
use Rattle.diy_io.proofs.PageLemmas.{put_is}
use Rattle.diy_io.proofs.page.Page.put.Goals as goal

pub returns : goal.returns
returns c = put_is _ _ c.self.inside.bytes _ _ _ c.self.invariant c.self.told c.self.view_is c.min-count.ensures c.copy_to.ensures
