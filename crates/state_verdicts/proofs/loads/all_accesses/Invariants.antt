-- In the loop over the threads: the accesses of those before this one.
use Rattle.std.proofs.Common.{◌≡◌, take, map}
use Rattle.litmus_text.specs.ReadPrograms.{program_read}
use Rattle.program_meaning.specs.Interleavings.{accesses_on}
use Rattle.state_verdicts.proofs.loads.all_accesses.Given as goal

abbrev pub invariant-loop-thread : goal.invariant-loop-thread
invariant-loop-thread g l = l.all.items ≡ take l.thread (accesses_on (program_read l.test) (map (λ list. list.items) l.loads))
