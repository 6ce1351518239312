-- Only for private functions: how the summary is counted, one test after another.
-- Source: own.
use Rattle.std.specs.Prelude.{ℕ, ◌≡◌, ◌+◌, ◌^◌, ◌<◌, List, length, slice_index_or, slice_set}
use Rattle.diy_io.specs.Sink.{Tally, line_feed_count, tally_of}
use Rattle.demo_tests.specs.declared.tally.TestTally.{TestTally}

-- the tally of no tests
abbrev pub nothing_counted : TestTally
nothing_counted = record { tests = 0; lines = 0; bytes = 0 }

-- the tally with one more test, given the tally of its text
abbrev pub test_counted : Tally → TestTally → TestTally
test_counted text tally = record { tests = tally.tests + 1; lines = tally.lines + text.line_feeds; bytes = tally.bytes + text.bytes }

-- the tally of a text: its bytes and its line feeds
abbrev pub text_tally : List ℕ → Tally
text_tally text = tally_of (length text) (line_feed_count text)

-- the tally at an index, if the list has it, counts one more text, and the others stay as they are
abbrev pub CountsAt : List TestTally → List TestTally → ℕ → Tally → Type 0
CountsAt old new place text = (other : TestTally) → new ≡ slice_set old place (test_counted text (slice_index_or old place other))

-- one more test can be counted: no number of the tally overflows
pub record Fits (text : Tally) (tally : TestTally) : Type 0 where
  pub tests : tally.tests + 1 < 2 ^ 64
  pub lines : tally.lines + text.line_feeds < 2 ^ 64
  pub bytes : tally.bytes + text.bytes < 2 ^ 64
