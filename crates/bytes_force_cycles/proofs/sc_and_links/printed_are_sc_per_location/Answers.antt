-- The law `printed_are_sc_per_location` holds.
use Rattle.bytes_force_cycles.proofs.PrintedSc.{printed_are_sc_per_location}
use Rattle.bytes_force_cycles.proofs.sc_and_links.printed_are_sc_per_location.Goals as goal

pub returns : goal.returns
returns g c = printed_are_sc_per_location g.A.Arch.puts g.A.Arch.NAME g.A.Arch.writing g.met.A.Arch.laws g.met.A.Arch.reads_back g.met.A.Arch.writes_cells g.met.A.Arch.makes_one_access
