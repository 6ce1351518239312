-- A sink over a writer of the standard library.
use Rattle.std.specs.{Prelude.{ℕ, List, ◌++◌, ◌≡◌, Option}, Io.KnownBytes.Appends}
use Rattle.diy_io.specs.{Sink.shown_nothing, Wrote.SinkSeen}
use Rattle.system_devices.specs.declared.std_sink.StdSink.{StdSink}

-- the writer beneath
abbrev pub writer_of : {W : Type 0} → StdSink W → W
writer_of sink = sink.writer

-- how many writes failed
abbrev pub std_sink_faults : {W : Type 0} → StdSink W → ℕ
std_sink_faults sink = sink.faults

-- it shows nothing of its bytes
abbrev pub std_sink_seen : {W : Type 0} → StdSink W → SinkSeen
std_sink_seen sink = record { shown = shown_nothing; faults = sink.faults }

-- the bytes that a writer holds, if it shows them, grew by a prefix of a text
pub record AppendsPrefix (old new : Option (List ℕ)) (text : List ℕ) : Type 0 where
  pub prefix : List ℕ
  pub rest : List ℕ
  pub parts : text ≡ prefix ++ rest
  pub appends : Appends old new prefix
