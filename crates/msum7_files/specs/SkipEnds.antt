-- How a call that sums logs without the blocks that have errors ended, and what it did to its devices.
-- Source: own.
use Rattle.std.specs.{Prelude.{◌≡◌, ◌⊎◌, ◌+◌, ◌^◌, ◌<◌, ◌≤◌, ℕ, List, [], ◌∷◌, ◌++◌, length, map, Option, None, Some, Result, Ok, Err}}
use Rattle.std.specs.{Prelude.{IfSome, MatchOption}, Io.KnownBytes.{IsAtEnd}, declared.vec.Vec.Vec, declared.alloc.Global.Global}
use Rattle.diy_io.specs.{Count.Rose, Shelf.{Files, ShelfSeen}, Taken.{SourceSeen, EndedOnce}, Sink.line_feed_count}
use Rattle.diy_io.specs.{Wrote.{SinkSeen, WroteAll, WrotePart}, Opened.{EndsSeen, EndsSeenOrOneMore, IsFile, TookFiles}}
use Rattle.log_sum.specs.{Sieving.skipped_view, Skipping.{Skipped, sifted}, declared.skipping.SkippedBlock.SkippedBlock}
use Rattle.msum7_files.specs.{declared.sum_end.SumEnd.SumEnd, Logs.{IsText, IsShort, TookCount, EndsAt, max_piece}}
use Rattle.msum7_files.specs.{SumEnds.{AreLogs, InputStopped, FileStopped, IsAtWord}, declared.sum_form.SumForm.SumForm}
use Rattle.msum7_files.specs.SumForms.{form_text}
use Rattle.msum7_files.specs.declared.sum_end.SumEnd.TheVariants as ends

-- what is kept of logs has this sum in a form, and these are the blocks that are left out
pub record IsKeptSum (form : SumForm) (logs : List (List ℕ)) (blocks : List Skipped) (sum : List ℕ) : Type 0 where
  pub is : form_text form (sifted logs).kept ≡ Ok sum
  pub blocks_are : blocks ≡ (sifted logs).skipped

-- more than 2^40 bytes were taken of a log, those after the first 2^40 in one piece, and this is the line of the byte after these
pub record IsOverfull (log taken : List ℕ) (line : ℕ) : Type 0 where
  pub rest : List ℕ
  pub parts : log ≡ taken ++ rest
  pub prefix : List ℕ
  pub more : List ℕ
  pub cut : taken ≡ prefix ++ more
  pub full : length prefix ≡ 2 ^ 40
  pub some : 0 < length more
  pub one : length more ≤ max_piece
  pub number : line ≡ line_feed_count prefix + 1

-- the input is a log of at most 2^40 bytes, which was read to its end, seen once; these blocks of it are left out, and this is the sum of
-- what is kept, in a form
pub record InputKept (form : SumForm) (old new : SourceSeen) (blocks : List Skipped) (sum : List ℕ) : Type 0 where
  pub log : List ℕ
  pub text : IsText old.left log
  pub at_end : IsAtEnd new.left
  pub once : EndedOnce old new
  pub short : IsShort log
  pub taken : TookCount old new (length log)
  pub no_fault : new.faults ≡ old.faults
  pub is : IsKeptSum form (log ∷ []) blocks sum

-- the input was read in this way, these blocks are left out, and this was done with the sum
pub record InputKeptSaid (form : SumForm) (old new : SourceSeen) (blocks : List Skipped) (done : List ℕ → Type 0) : Type 0 where
  pub sum : List ℕ
  pub read : InputKept form old new blocks sum
  pub wrote : done sum

-- the input is a log of more than 2^40 bytes, and no more was taken
abbrev pub InputOverfull : SourceSeen → SourceSeen → ℕ → Type 0
InputOverfull old new line = InputStopped old new (λ log bytes. IsOverfull log bytes line)

-- the device failed, and the bytes that were taken of the log are at most 2^40
pub record TakingFailed (old new : SourceSeen) : Type 0 where
  pub log : List ℕ
  pub text : IsText old.left log
  pub bytes : List ℕ
  pub rest : List ℕ
  pub parts : log ≡ bytes ++ rest
  pub short : IsShort bytes
  pub taken : TookCount old new (length bytes)
  pub ends : EndsAt old new bytes log
  pub fault : Rose old.faults new.faults
  pub never_falls : old.faults ≤ new.faults

-- how the summing of an input without the blocks that have errors ended, of which this form was asked for: these blocks were left out and
-- the sum was written, or the call ended so. No error of a log ends it; a log of more than 2^40 bytes, a failing device and missing memory
-- do
abbrev pub InputSkipped : SumForm → SourceSeen → SourceSeen → SinkSeen → SinkSeen → Result (Vec SkippedBlock Global) SumEnd → Type 0
InputSkipped form old new out_old out_new (Ok blocks) =
    InputKeptSaid form old new (map skipped_view blocks.items) (WroteAll out_old out_new)
InputSkipped form old new out_old out_new (Err ends.OutFault) =
    (blocks : List Skipped) × InputKeptSaid form old new blocks (WrotePart out_old out_new)
InputSkipped form old new out_old out_new (Err (ends.TooMuch None line)) = InputOverfull old new line × (out_new ≡ out_old)
InputSkipped form old new out_old out_new (Err ends.InputFault) = TakingFailed old new × (out_new ≡ out_old)
InputSkipped form old new out_old out_new (Err ends.NoMemory) = out_new ≡ out_old
InputSkipped form old new out_old out_new (Err ends.Done) = ⊥
InputSkipped form old new out_old out_new (Err (ends.Wrong file line kind)) = ⊥
InputSkipped form old new out_old out_new (Err (ends.TooMuch (Some file) line)) = ⊥
InputSkipped form old new out_old out_new (Err (ends.NoFile word)) = ⊥
InputSkipped form old new out_old out_new (Err ends.ShelfFault) = ⊥

-- the arguments name files that are logs of at most 2^40 bytes, each read to its end, which was seen once; these blocks of them are left
-- out, and this is the sum of what is kept, in a form
pub record FilesKept (form : SumForm) (old new : ShelfSeen) (words : List (List ℕ)) (first : ℕ) (blocks : List Skipped)
    (sum : List ℕ) : Type 0 where
  pub logs : List (List ℕ)
  pub all : first + length logs ≡ length words
  pub are : AreLogs old.files words first logs
  pub no_fault : new.faults ≡ old.faults
  pub took : TookFiles old new logs
  pub ends : EndsSeen old new (length logs)
  pub is : IsKeptSum form logs blocks sum

-- the files were read in this way, these blocks are left out, and this was done with the sum
pub record FilesKeptSaid (form : SumForm) (old new : ShelfSeen) (words : List (List ℕ)) (first : ℕ) (blocks : List Skipped)
    (done : List ℕ → Type 0) : Type 0 where
  pub sum : List ℕ
  pub read : FilesKept form old new words first blocks sum
  pub wrote : done sum

-- the log that the argument at an index names has more than 2^40 bytes, and no more was opened or taken
abbrev pub FileOverfull : ShelfSeen → ShelfSeen → List (List ℕ) → ℕ → ℕ → ℕ → Type 0
FileOverfull old new words first place line = FileStopped old new words first place (λ before log bytes. IsOverfull log bytes line)

-- the file that the argument at an index names doesn't exist, and the shelf hasn't failed, if the shelf shows its files; otherwise
-- its error count rose; no more was opened
pub record KeepingMissing (old new : ShelfSeen) (words : List (List ℕ)) (first place : ℕ) : Type 0 where
  pub before : List (List ℕ)
  pub name : List ℕ
  pub place_is : IsAtWord old.files words first place before name
  pub absent : MatchOption old.files (Rose old.faults new.faults) (λ there. there name ≡ None)
  pub no_fault : IfSome old.files (λ there. new.faults ≡ old.faults)
  pub took : TookFiles old new before
  pub ends : EndsSeen old new (length before)

-- these are the first bytes of the log of a name, at most 2^40
pub record IsTaken (files : Option Files) (name bytes : List ℕ) : Type 0 where
  pub log : List ℕ
  pub text : IsFile files name log
  pub rest : List ℕ
  pub parts : log ≡ bytes ++ rest
  pub short : IsShort bytes

-- the shelf failed at the file that an argument names: it wasn't opened, or these bytes were taken of it
pub record KeepingFailed (old new : ShelfSeen) (words : List (List ℕ)) (first : ℕ) : Type 0 where
  pub fault : Rose old.faults new.faults
  pub place : ℕ
  pub before : List (List ℕ)
  pub name : List ℕ
  pub place_is : IsAtWord old.files words first place before name
  pub took : TookFiles old new before ⊎ ((bytes : List ℕ) × IsTaken old.files name bytes × TookFiles old new (before ++ bytes ∷ []))
  pub ends : EndsSeenOrOneMore old new (length before)

-- how the summing of files without the blocks that have errors ended, of which this form was asked for
abbrev pub FilesSkipped :
    SumForm → ShelfSeen → ShelfSeen → List (List ℕ) → ℕ → SinkSeen → SinkSeen → Result (Vec SkippedBlock Global) SumEnd → Type 0
FilesSkipped form old new words first out_old out_new (Ok blocks) =
    FilesKeptSaid form old new words first (map skipped_view blocks.items) (WroteAll out_old out_new)
FilesSkipped form old new words first out_old out_new (Err ends.OutFault) =
    (blocks : List Skipped) × FilesKeptSaid form old new words first blocks (WrotePart out_old out_new)
FilesSkipped form old new words first out_old out_new (Err (ends.TooMuch (Some file) line)) =
    FileOverfull old new words first file line × (out_new ≡ out_old)
FilesSkipped form old new words first out_old out_new (Err (ends.NoFile word)) =
    KeepingMissing old new words first word × (out_new ≡ out_old)
FilesSkipped form old new words first out_old out_new (Err ends.ShelfFault) = KeepingFailed old new words first × (out_new ≡ out_old)
FilesSkipped form old new words first out_old out_new (Err ends.NoMemory) = out_new ≡ out_old
FilesSkipped form old new words first out_old out_new (Err ends.Done) = ⊥
FilesSkipped form old new words first out_old out_new (Err (ends.Wrong file line kind)) = ⊥
FilesSkipped form old new words first out_old out_new (Err (ends.TooMuch None line)) = ⊥
FilesSkipped form old new words first out_old out_new (Err ends.InputFault) = ⊥
