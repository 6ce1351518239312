-- The law `printed_undecided` holds.
use Rattle.two_runs.proofs.ExchangePrinted.{printed_undecided_law}
use Rattle.two_runs.proofs.undecided.printed_undecided.Goals as goal

pub returns : goal.returns
returns g c = printed_undecided_law g.A.Arch.puts g.A.Arch.NAME g.A.Arch.writing g.met.A.Arch.laws g.met.A.Arch.reads_back g.met.A.Arch.writes_cells g.met.A.Arch.makes_one_access
