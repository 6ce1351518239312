-- The law `condition_decides` holds.
use Rattle.bytes_force_cycles.proofs.Links.{condition_decides}
use Rattle.bytes_force_cycles.proofs.sc_and_links.condition_decides.Goals as goal

pub returns : goal.returns
returns g c = condition_decides g.A.Arch.puts g.A.Arch.NAME g.A.Arch.writing g.met.A.Arch.laws g.met.A.Arch.reads_back g.met.A.Arch.writes_cells g.met.A.Arch.makes_one_access
