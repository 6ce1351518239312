-- The loop of `read_text`: what was read so far, and that less is left to read.
use Rattle.std.proofs.Common.{◌<◌, ◌≤◌, ◌+◌, ◌-◌, length}
use Rattle.litmus_text.specs.declared.limits.TheConstants.{MAX_TEST_TEXT}
use Rattle.tests_from_files.specs.OpenFiles.{FileReadSoFar}
use Rattle.tests_from_files.proofs.text.read_text.Given as goal

-- what was read so far is no more than a test may have
abbrev pub invariant-loop-count : goal.invariant-loop-count
invariant-loop-count g l = record {
  read : FileReadSoFar (g.H.Shelf.seen l.initial.shelf) (g.H.Shelf.seen l.shelf) l.text.items;
  few : length l.text.items ≤ MAX_TEST_TEXT;
  some : 0 < length l.piece;
}

abbrev pub decreases-loop-count : goal.decreases-loop-count
decreases-loop-count g l = MAX_TEST_TEXT + 1 - length l.text.items
