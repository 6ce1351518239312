-- That the printed text of the test of a cycle forces the cycle.
use Rattle.bytes_force_cycles.proofs.Printed.{printed_force}
use Rattle.bytes_force_cycles.proofs.printed_tests.printed_tests_force.Goals as goal

pub returns : goal.returns
returns g c = λ name es mode named t.
    printed_force g.A.Arch.puts g.A.Arch.NAME g.A.Arch.writing name es mode g.met.A.Arch.laws g.met.A.Arch.reads_back g.met.A.Arch.writes_cells g.met.A.Arch.makes_one_access named t
