-- The loop of `write_all`: the writer takes the bytes before the rest, which gets shorter.
use Rattle.std.proofs.Common.{◌≡◌, length}
use Rattle.system_devices.proofs.StdSinkLemmas.{TookBefore}
use Rattle.system_devices.proofs.std_sink.StdSinkSink.write_all.Given as goal

-- the writer took what comes before the rest, and no write failed
abbrev pub invariant-loop-rest : goal.invariant-loop-rest
invariant-loop-rest g l = record {
  took : TookBefore (g.W.Write.contents l.fn.self.writer) (g.W.Write.contents l.self.writer) l.bytes l.rest;
  no_fault : l.self.faults ≡ l.fn.self.faults;
}

abbrev pub decreases-loop-rest : goal.decreases-loop-rest
decreases-loop-rest g l = length l.rest
