-- The law `each_link_may_break` holds.
use Rattle.bytes_force_cycles.proofs.Links.{each_link_may_break}
use Rattle.bytes_force_cycles.proofs.sc_and_links.each_link_may_break.Goals as goal

pub returns : goal.returns
returns g c = each_link_may_break g.A.Arch.puts g.A.Arch.NAME g.A.Arch.writing g.met.A.Arch.laws g.met.A.Arch.reads_back g.met.A.Arch.writes_cells g.met.A.Arch.makes_one_access
