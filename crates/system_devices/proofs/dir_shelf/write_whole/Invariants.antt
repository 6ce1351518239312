-- That the loop of `write_whole` ends: the rest gets shorter.
use Rattle.std.proofs.Common.{length}
use Rattle.system_devices.proofs.dir_shelf.write_whole.Given as goal

abbrev pub decreases-loop-rest : goal.decreases-loop-rest
decreases-loop-rest g l = length l.rest
