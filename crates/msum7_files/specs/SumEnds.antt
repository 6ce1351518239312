-- How a call that sums logs ended, and what it did to its devices.
-- Source: own.
use Rattle.std.specs.Prelude.{◌≡◌, ◌⊎◌, ◌+◌, ℕ, List, [], ◌∷◌, ◌++◌, length, slice_get, Option, None, Some, IfSome, MatchOption, All, Ok}
use Rattle.std.specs.Io.KnownBytes.{IsAtEnd}
use Rattle.diy_io.specs.{Count.Rose, Shelf.{Files, ShelfSeen}, Taken.{SourceSeen, EndedOnce}, Wrote.{SinkSeen, WroteAll, WrotePart}, Opened.{EndsSeen, EndsSeenOrOneMore, IsFile, TookFiles}}
use Rattle.log_sum.specs.{declared.errors.LogError.LogError, declared.errors.LogKind.LogKind, Representing.{ShowsNone}}
use Rattle.msum7_files.specs.{declared.sum_end.SumEnd.SumEnd, Logs.{IsText, IsShort, TookCount, EndsAt, AreWholeLogs, IsWrongLog, IsTooMuch, ReadFailed}}
use Rattle.msum7_files.specs.{declared.sum_form.SumForm.SumForm, SumForms.{form_text}}
use Rattle.msum7_files.specs.declared.sum_end.SumEnd.TheVariants as ends

-- the input is a log of at most 2^40 bytes without an error, which was read to its end, seen once, and this is its sum in a form
pub record InputRead (form : SumForm) (old new : SourceSeen) (sum : List ℕ) : Type 0 where
  pub log : List ℕ
  pub text : IsText old.left log
  pub at_end : IsAtEnd new.left
  pub once : EndedOnce old new
  pub short : IsShort log
  pub taken : TookCount old new (length log)
  pub no_fault : new.faults ≡ old.faults
  pub is : form_text form (log ∷ []) ≡ Ok sum

-- the input was read in this way, and this was done with its sum
pub record InputSaid (form : SumForm) (old new : SourceSeen) (done : List ℕ → Type 0) : Type 0 where
  pub sum : List ℕ
  pub read : InputRead form old new sum
  pub wrote : done sum

-- the input is a log of which these bytes were taken and no more, its end was seen only if they are all, this holds of both, and the
-- input hasn't failed
pub record InputStopped (old new : SourceSeen) (Is : List ℕ → List ℕ → Type 0) : Type 0 where
  pub log : List ℕ
  pub text : IsText old.left log
  pub bytes : List ℕ
  pub taken : TookCount old new (length bytes)
  pub ends : EndsAt old new bytes log
  pub is : Is log bytes
  pub no_fault : new.faults ≡ old.faults

-- the input is a log with this first error, and no more was taken
abbrev pub InputWrong : SourceSeen → SourceSeen → LogError → Type 0
InputWrong old new error = InputStopped old new (λ log bytes. IsWrongLog [] log bytes error)

-- the input is a log of more than 2^40 bytes, and no more was taken
abbrev pub InputTooMuch : SourceSeen → SourceSeen → ℕ → Type 0
InputTooMuch old new line = InputStopped old new (λ log bytes. IsTooMuch [] log bytes line)

-- an error of a kind, at a line
abbrev pub log_error_at : ℕ → LogKind → LogError
log_error_at line kind = record { line = line; kind = kind }

-- how the summing of an input ended, of which this form was asked for
abbrev pub InputSummed : SumForm → SourceSeen → SourceSeen → SinkSeen → SinkSeen → SumEnd → Type 0
InputSummed form old new out_old out_new ends.Done = InputSaid form old new (WroteAll out_old out_new)
InputSummed form old new out_old out_new ends.OutFault = InputSaid form old new (WrotePart out_old out_new)
InputSummed form old new out_old out_new (ends.Wrong None line kind) = InputWrong old new (log_error_at line kind) × (out_new ≡ out_old)
InputSummed form old new out_old out_new (ends.TooMuch None line) = InputTooMuch old new line × (out_new ≡ out_old)
InputSummed form old new out_old out_new ends.InputFault = ReadFailed old new [] × (out_new ≡ out_old)
InputSummed form old new out_old out_new ends.NoMemory = out_new ≡ out_old
InputSummed form old new out_old out_new (ends.Wrong (Some file) line kind) = ⊥
InputSummed form old new out_old out_new (ends.TooMuch (Some file) line) = ⊥
InputSummed form old new out_old out_new (ends.NoFile word) = ⊥
InputSummed form old new out_old out_new ends.ShelfFault = ⊥

-- these are the logs that the arguments from an index on name, as far as there are logs, each of at most 2^40 bytes
pub record AreLogs (files : Option Files) (words : List (List ℕ)) (first : ℕ) (logs : List (List ℕ)) : Type 0 where
  pub named : (k : ℕ) (name log : List ℕ) → slice_get words (first + k) ≡ Some name → slice_get logs k ≡ Some log → IsFile files name log
  pub short : All IsShort logs

-- the arguments name files that are logs without an error, each read to its end, which was seen once, and this is their sum in a form
pub record FilesRead (form : SumForm) (old new : ShelfSeen) (words : List (List ℕ)) (first : ℕ) (sum : List ℕ) : Type 0 where
  pub logs : List (List ℕ)
  pub all : first + length logs ≡ length words
  pub are : AreLogs old.files words first logs
  pub no_fault : new.faults ≡ old.faults
  pub took : TookFiles old new logs
  pub ends : EndsSeen old new (length logs)
  pub is : form_text form logs ≡ Ok sum

-- the files were read in this way, and this was done with their sum
pub record LogFilesSaid (form : SumForm) (old new : ShelfSeen) (words : List (List ℕ)) (first : ℕ) (done : List ℕ → Type 0) : Type 0 where
  pub sum : List ℕ
  pub read : FilesRead form old new words first sum
  pub wrote : done sum

-- the argument at an index is this name, and the arguments before it name these logs
pub record IsAtWord (files : Option Files) (words : List (List ℕ)) (first place : ℕ) (before : List (List ℕ)) (name : List ℕ) : Type 0 where
  pub count : place ≡ first + length before
  pub are : AreLogs files words first before
  pub word : slice_get words place ≡ Some name

-- some bytes were taken of the log that the argument at an index names, no more was opened or taken, and this holds of the logs
-- before it, of the log and of the bytes; the shelf hadn't failed when it was opened, and its end was seen only if all of it was taken
pub record FileStopped (old new : ShelfSeen) (words : List (List ℕ)) (first place : ℕ) (Is : List (List ℕ) → List ℕ → List ℕ → Type 0) : Type 0 where
  pub before : List (List ℕ)
  pub name : List ℕ
  pub place_is : IsAtWord old.files words first place before name
  pub log : List ℕ
  pub text : IsFile old.files name log
  pub bytes : List ℕ
  pub is : Is before log bytes
  pub took : TookFiles old new (before ++ bytes ∷ [])
  pub ends : EndsSeen old new (length before) ⊎ (EndsSeen old new (length before + 1) × (bytes ≡ log))
  pub at_open : new.faults_at_open ≡ old.faults

-- the log that the argument at an index names has the first error of the logs, and no more was opened or taken
abbrev pub LogFileWrong : ShelfSeen → ShelfSeen → List (List ℕ) → ℕ → ℕ → LogError → Type 0
LogFileWrong old new words first place error = FileStopped old new words first place (λ before log bytes. IsWrongLog before log bytes error)

-- the log that the argument at an index names has more than 2^40 bytes, those before it have no error, and no more was opened or taken
abbrev pub FileTooMuch : ShelfSeen → ShelfSeen → List (List ℕ) → ℕ → ℕ → ℕ → Type 0
FileTooMuch old new words first place line = FileStopped old new words first place (λ before log bytes. IsTooMuch before log bytes line)

-- the file that the argument at an index names doesn't exist, and the shelf hasn't failed, if the shelf shows its files; otherwise
-- its error count rose; the logs before it have no error, and no more was opened
pub record LogFileMissing (old new : ShelfSeen) (words : List (List ℕ)) (first place : ℕ) : Type 0 where
  pub before : List (List ℕ)
  pub name : List ℕ
  pub place_is : IsAtWord old.files words first place before name
  pub right_before : AreWholeLogs before
  pub absent : MatchOption old.files (Rose old.faults new.faults) (λ there. there name ≡ None)
  pub no_fault : IfSome old.files (λ there. new.faults ≡ old.faults)
  pub took : TookFiles old new before
  pub ends : EndsSeen old new (length before)

-- these are the first bytes of the log of a name, at most 2^40, and show no error after other logs
pub record IsBegun (files : Option Files) (before : List (List ℕ)) (name bytes : List ℕ) : Type 0 where
  pub log : List ℕ
  pub text : IsFile files name log
  pub rest : List ℕ
  pub parts : log ≡ bytes ++ rest
  pub short : IsShort bytes
  pub no_fault : ShowsNone before bytes

-- the shelf failed at the file that an argument names, after logs with no error: it wasn't opened, or what was taken of it shows none
pub record SumShelfFailed (old new : ShelfSeen) (words : List (List ℕ)) (first : ℕ) : Type 0 where
  pub fault : Rose old.faults new.faults
  pub place : ℕ
  pub before : List (List ℕ)
  pub name : List ℕ
  pub place_is : IsAtWord old.files words first place before name
  pub right_before : AreWholeLogs before
  pub took : TookFiles old new before ⊎ ((bytes : List ℕ) × IsBegun old.files before name bytes × TookFiles old new (before ++ bytes ∷ []))
  pub ends : EndsSeenOrOneMore old new (length before)

-- how the summing of files ended, of which this form was asked for
abbrev pub FilesSummed : SumForm → ShelfSeen → ShelfSeen → List (List ℕ) → ℕ → SinkSeen → SinkSeen → SumEnd → Type 0
FilesSummed form old new words first out_old out_new ends.Done = LogFilesSaid form old new words first (WroteAll out_old out_new)
FilesSummed form old new words first out_old out_new ends.OutFault = LogFilesSaid form old new words first (WrotePart out_old out_new)
FilesSummed form old new words first out_old out_new (ends.Wrong (Some file) line kind) =
    LogFileWrong old new words first file (log_error_at line kind) × (out_new ≡ out_old)
FilesSummed form old new words first out_old out_new (ends.TooMuch (Some file) line) = FileTooMuch old new words first file line × (out_new ≡ out_old)
FilesSummed form old new words first out_old out_new (ends.NoFile word) = LogFileMissing old new words first word × (out_new ≡ out_old)
FilesSummed form old new words first out_old out_new ends.ShelfFault = SumShelfFailed old new words first × (out_new ≡ out_old)
FilesSummed form old new words first out_old out_new ends.NoMemory = out_new ≡ out_old
FilesSummed form old new words first out_old out_new (ends.Wrong None line kind) = ⊥
FilesSummed form old new words first out_old out_new (ends.TooMuch None line) = ⊥
FilesSummed form old new words first out_old out_new ends.InputFault = ⊥
