-- The reading of words ends, since each step leaves fewer bytes.
use Rattle.std.proofs.Common.{length}
use Rattle.cycle_names.proofs.read.+read_words.Given as goal

abbrev pub decreases-read_words : goal.decreases-read_words
decreases-read_words l = length l.text.now
