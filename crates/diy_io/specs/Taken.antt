-- What a source shows, and what it means that bytes were taken from it.
use Rattle.std.specs.{Prelude.{◌≡◌, ◌≤◌, ◌⊎◌, ℕ, ◌+◌, List, length, Option, Result, IfOk, OnOk, OnErr}, Io.KnownBytes.{Consumes, IsAtEnd, ReadConsumes}}
use Rattle.diy_io.specs.{declared.errors.Failed.Failed, Count.{count_of, next_count, ends_after, Rose}}

-- the bytes that are still to come, if the source shows them, how many bytes were taken, the error count, and how often the end was seen:
-- by a read of nothing though there was space
pub record SourceSeen : Type 0 where
  pub left : Option (List ℕ)
  pub taken : ℕ
  pub faults : ℕ
  pub ends : ℕ

-- a call returns how many bytes it wrote at the start of a buffer: they are the first that were left, if the source shows these, and
-- there are none only at the end or if the buffer is empty; they are counted, and so is an end that is seen. It fails only if the error
-- count rises or is at its maximum, and takes nothing then
pub record GivesBytes (old new : SourceSeen) (buffer : List ℕ) (result : Result ℕ Failed) : Type 0 where
  pub bound : IfOk result (λ n. n ≤ length buffer)
  pub bytes : ReadConsumes old.left new.left result buffer
  pub counted : IfOk result (λ n. new.taken ≡ count_of (old.taken + n))
  pub uncounted : OnErr result (new.taken ≡ old.taken)
  pub ends : IfOk result (λ n. new.ends ≡ ends_after old.ends (length buffer) n)
  pub no_end : OnErr result (new.ends ≡ old.ends)
  pub no_fault : OnOk result (new.faults ≡ old.faults)
  pub fault : OnErr result (Rose old.faults new.faults)
  pub never_falls : old.faults ≤ new.faults

-- these bytes were taken and counted: they are the first that were left, if the source shows these
pub record Took (old new : SourceSeen) (bytes : List ℕ) : Type 0 where
  pub consumed : Consumes old.left new.left bytes
  pub counted : new.taken ≡ count_of (old.taken + length bytes)

-- the end was seen once
abbrev pub EndedOnce : SourceSeen → SourceSeen → Type 0
EndedOnce old new = new.ends ≡ next_count old.ends

-- the end wasn't seen
abbrev pub NotEnded : SourceSeen → SourceSeen → Type 0
NotEnded old new = new.ends ≡ old.ends

-- the end wasn't seen, or it was, once
abbrev pub EndedAtMostOnce : SourceSeen → SourceSeen → Type 0
EndedAtMostOnce old new = NotEnded old new ⊎ (EndedOnce old new × IsAtEnd new.left)
