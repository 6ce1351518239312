-- The search for a byte ends, since each step leaves fewer bytes.
use Rattle.std.proofs.Common.{length}
use Rattle.cycle_names.proofs.read.+len_before.Given as goal

abbrev pub decreases-len_before : goal.decreases-len_before
decreases-len_before l = length l.text.now
