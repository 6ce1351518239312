-- The law `links_decide` holds.
use Rattle.bytes_force_cycles.proofs.Links.{links_decide}
use Rattle.bytes_force_cycles.proofs.sc_and_links.links_decide.Goals as goal

pub returns : goal.returns
returns g c = links_decide g.A.Arch.puts g.A.Arch.NAME g.A.Arch.writing g.met.A.Arch.laws g.met.A.Arch.reads_back g.met.A.Arch.writes_cells g.met.A.Arch.makes_one_access
