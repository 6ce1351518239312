-- A source in memory that never fails.
use Rattle.std.specs.Prelude.{ℕ, ◌+◌, List, length, drop, min, Some}
use Rattle.diy_io.specs.{Count.{count_of, ends_after}, Taken.SourceSeen}

-- the bytes still to come, the most bytes that a call gives, how many were taken, and how often the end was seen
pub record SureSourceState : Type 0 where
  pub left : List ℕ
  pub piece : ℕ
  pub taken : ℕ
  pub ends : ℕ

-- how many bytes a call gives to a buffer of this length
abbrev pub given_count : SureSourceState → ℕ → ℕ
given_count source len = min (min len source.piece) (length source.left)

-- the source after a call with a buffer of this length
abbrev pub sure_source_after : SureSourceState → ℕ → SureSourceState
sure_source_after source len = record {
  left = drop (given_count source len) source.left;
  piece = source.piece;
  taken = count_of (source.taken + given_count source len);
  ends = ends_after source.ends len (given_count source len);
}

-- it shows the bytes to come, and never fails
abbrev pub sure_source_seen : SureSourceState → SourceSeen
sure_source_seen source = record { left = Some source.left; taken = source.taken; faults = 0; ends = source.ends }
