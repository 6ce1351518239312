-- The loop of `write_again`: an interrupted write adds nothing, and the signals that may come get fewer.
use Rattle.std.specs.Io.KnownBytes.{Keeps}
use Rattle.system_devices.proofs.again.write_again.Given as goal

abbrev pub invariant-loop-signals : goal.invariant-loop-signals
invariant-loop-signals g l = Keeps (g.W.Write.contents l.fn.writer) (g.W.Write.contents l.writer)

abbrev pub decreases-loop-signals : goal.decreases-loop-signals
decreases-loop-signals g l = l.signals
