-- The comparison of a word with a text ends, since each step leaves fewer bytes of the word.
use Rattle.std.proofs.Common.{length}
use Rattle.cycle_names.proofs.read.+begins_with.Given as goal

abbrev pub decreases-begins_with : goal.decreases-begins_with
decreases-begins_with l = length l.word.now
