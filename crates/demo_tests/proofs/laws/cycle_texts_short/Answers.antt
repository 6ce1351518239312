-- That the text of the test of a cycle, under the cycle's name, is short.
use Rattle.demo_tests.proofs.Cycles.{cycle_text_short}
use Rattle.demo_tests.proofs.laws.cycle_texts_short.Goals as goal

pub returns : goal.returns
returns g c = λ mode cycle whole accepted.
    cycle_text_short g.A.Arch.puts g.A.Arch.writing mode cycle g.met.A.Arch.laws g.met.A.Arch.reads_back g.met.A.Arch.writes_cells g.met.A.Arch.makes_one_access whole accepted
