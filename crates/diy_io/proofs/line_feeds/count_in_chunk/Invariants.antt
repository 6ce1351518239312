-- How the count of line feeds grows byte by byte.
use Rattle.std.proofs.Common.{◌≡◌, ◌≤◌, take}
use Rattle.diy_io.specs.Sink.{line_feed_count}
use Rattle.diy_io.proofs.line_feeds.count_in_chunk.Given as goal

-- the line feeds before the place are counted
abbrev pub invariant-loop-byte : goal.invariant-loop-byte
invariant-loop-byte l = record {
  counted : l.count ≡ line_feed_count (take l.byte-index l.chunk);
  few : l.count ≤ l.byte-index;
}
