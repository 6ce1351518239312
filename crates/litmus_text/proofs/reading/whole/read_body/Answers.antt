-- The registers of the initial state are the machine's, as the table asks.
use Rattle.litmus_text.proofs.{Vocabulary.{arith, begun_seen, length, text_left, ◌≤◌}, RegistersRead.initial_below}
use Rattle.litmus_text.proofs.reading.whole.read_body.Goals as goal

pub read_table-requires-clause-registers : goal.read_table-requires-clause-registers
read_table-requires-clause-registers g c =
    let few : length g.A.Arch.writing.registers ≤ 32 = omega (arith, g.met.A.Arch.reads_back.count, g.met.A.Arch.laws.few) in
    initial_below g.A.Arch.writing (text_left c.args.text) (text_left c.in_ok-text.text) (begun_seen c.read_initial.new.begun) few c.in_ok-text.ensures
