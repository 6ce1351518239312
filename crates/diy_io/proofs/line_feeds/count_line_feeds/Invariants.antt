-- How the count of line feeds grows chunk by chunk, and why it ends.
use Rattle.std.proofs.Common.{◌≡◌, ◌+◌, length}
use Rattle.diy_io.specs.Sink.{line_feed_count}
use Rattle.diy_io.proofs.line_feeds.count_line_feeds.Given as goal

-- the line feeds that are counted and those that are left are those of the text
abbrev pub invariant-loop-left : goal.invariant-loop-left
invariant-loop-left l = l.count + line_feed_count l.left ≡ line_feed_count l.text

abbrev pub decreases-loop-left : goal.decreases-loop-left
decreases-loop-left l = length l.left
