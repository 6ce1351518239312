-- The law `printed_show_incoherence` holds.
use Rattle.co_tests.proofs.Printed.{printed_show}
use Rattle.co_tests.proofs.law.printed_show_incoherence.Goals as goal

pub returns : goal.returns
returns g c = printed_show g.A.Arch.puts g.A.Arch.NAME g.A.Arch.writing g.met.A.Arch.laws g.met.A.Arch.reads_back g.met.A.Arch.writes_cells g.met.A.Arch.makes_one_access
