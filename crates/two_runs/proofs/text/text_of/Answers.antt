-- What was written of an execution is read back to it.
use Rattle.two_runs.proofs.Texts.{written_is}
use Rattle.two_runs.proofs.text.text_of.Goals as goal

pub returns-in-Ok : goal.returns-in-Ok
returns-in-Ok g c = written_is c.new-sink.result.bytes.items c.print_test.new.out.bytes.items _ c.new-sink.ensures c.in-Ok.ensures.ok.grew
