-- A sink in memory, of bounded capacity.
use Rattle.std.specs.Prelude.{ℕ, ◌+◌, List, ◌++◌, length, take, nat_le, if◌then◌else◌}
use Rattle.diy_io.specs.{Count.next_count, Sink.shown_bytes, Wrote.SinkSeen}

-- how many bytes it can take in all, the bytes that it has taken, and how many writes failed
pub record MemSinkState : Type 0 where
  pub room : ℕ
  pub bytes : List ℕ
  pub faults : ℕ

-- the sink after a write of a text, which is cut off where the capacity ends; the error count rises if the text doesn't fit
abbrev pub mem_sink_after : MemSinkState → List ℕ → MemSinkState
mem_sink_after sink text = record {
  room = sink.room;
  bytes = take sink.room (sink.bytes ++ text);
  faults = if nat_le (length sink.bytes + length text) sink.room then sink.faults else next_count sink.faults;
}

-- it shows the bytes that it has taken
abbrev pub mem_sink_seen : MemSinkState → SinkSeen
mem_sink_seen sink = record { shown = shown_bytes sink.bytes; faults = sink.faults }
