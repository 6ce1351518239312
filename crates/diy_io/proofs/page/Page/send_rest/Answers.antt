-- That `send_rest` sends a text that an empty page takes whole.
use Rattle.std.proofs.Common.{arith, ap, length}
use Rattle.diy_io.proofs.PageLemmas.{put_whole}
use Rattle.diy_io.proofs.page.Page.send_rest.Goals as goal

pub returns : goal.returns
returns g c = put_whole _ _ _ _ _ c.put.ensures (let e = ap length c.requires in omega arith)
