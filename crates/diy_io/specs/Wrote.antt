-- What it means that a text was written to a sink, completely or in part.
use Rattle.std.specs.Prelude.{◌≡◌, ◌≤◌, ℕ, List, Result, OnOk, OnErr}
use Rattle.diy_io.specs.{declared.errors.Failed.Failed, Count.Rose, Sink.{Tally, Shown, Grew, GrewByPrefix, shown_tally}}

-- what a sink shows of its bytes, and its error count
pub record SinkSeen : Type 0 where
  pub shown : Shown
  pub faults : ℕ

-- what is seen of a sink that shows only a tally and never fails
abbrev pub tally_seen : Tally → SinkSeen
tally_seen tally = record { shown = shown_tally tally; faults = 0 }

-- a sink grew by the whole text without an error
pub record WroteAll (old new : SinkSeen) (text : List ℕ) : Type 0 where
  pub grew : Grew old.shown new.shown text
  pub no_fault : new.faults ≡ old.faults

-- a sink failed and grew by a prefix of the text; its error count rose or is at its maximum
pub record WrotePart (old new : SinkSeen) (text : List ℕ) : Type 0 where
  pub grew : GrewByPrefix old.shown new.shown text
  pub fault : Rose old.faults new.faults
  pub never_falls : old.faults ≤ new.faults

-- the whole text was written if the call succeeded, and a prefix of it if the call failed
pub record Wrote (old new : SinkSeen) (text : List ℕ) (result : Result (Unit {0}) Failed) : Type 0 where
  pub ok : OnOk result (WroteAll old new text)
  pub failed : OnErr result (WrotePart old new text)
