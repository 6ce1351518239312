-- Logs in the files of a shelf.
-- Source: own.
use Rattle.std.specs.Prelude.{◌≡◌, ◌+◌, ◌⊎◌, ℕ, List, [], ◌∷◌, ◌++◌, length, Some, Result, Ok, Err}
use Rattle.diy_io.specs.{Count.Rose, Taken.SourceSeen, Opened.{EndsSeen, EndsSeenOrOneMore, FileAbsent, IsFile, TookFiles}, Shelf.{Mode, Idle, IsReading, ShelfSeen, left_to_read}}
use Rattle.msum7_files.specs.{declared.feeding.Feeding.Feeding, declared.feeding.LogFault.LogFault, declared.files.FileFault.FileFault}
use Rattle.msum7_files.specs.{declared.files.FileFault.TheVariants.{Missing, Read}, declared.sum_end.SumEnd.SumEnd, declared.feeding.ReadFault.ReadFault}
use Rattle.msum7_files.specs.{declared.feeding.ReadFault.TheVariants.{Log, Device}, FileFaults.sum_end_at, Logs.IsShort, FileFeeding.{ReadsLogs, IsFaulty}}
use Rattle.msum7_files.specs.SumEnds.{AreLogs, IsBegun}
use Rattle.msum7_files.specs.declared.sum_end.SumEnd.TheVariants as ends

-- the file that is being read, as a source
abbrev pub log_seen : ShelfSeen → SourceSeen
log_seen shelf = record { left = left_to_read shelf.mode; taken = shelf.taken; faults = shelf.faults; ends = shelf.ends }

-- the file is still open, unless the shelf failed
abbrev pub ModeAfter : Mode → Result (Unit {0}) ReadFault → Type 0
ModeAfter mode (Ok x) = IsReading mode
ModeAfter mode (Err (Log fault)) = IsReading mode
ModeAfter mode (Err Device) = mode ≡ Idle

-- a file was summed, its end was seen once, and the shelf hasn't failed
pub record FileSummed (old new : ShelfSeen) (feeding : Feeding) (before : List (List ℕ)) (name : List ℕ) : Type 0 where
  pub log : List ℕ
  pub text : IsFile old.files name log
  pub short : IsShort log
  pub reads : ReadsLogs feeding (before ++ log ∷ []) []
  pub no_fault : new.faults ≡ old.faults
  pub took : TookFiles old new (log ∷ [])
  pub ends : EndsSeen old new 1

-- a file has an error; the shelf hadn't failed when it was opened, and its end was seen only if all of it was taken
pub record LogFileFaulty (old new : ShelfSeen) (before : List (List ℕ)) (name : List ℕ) (fault : LogFault) : Type 0 where
  pub log : List ℕ
  pub text : IsFile old.files name log
  pub bytes : List ℕ
  pub is : IsFaulty before log bytes fault
  pub took : TookFiles old new (bytes ∷ [])
  pub ends : EndsSeen old new 0 ⊎ (EndsSeen old new 1 × (bytes ≡ log))
  pub at_open : new.faults_at_open ≡ old.faults

-- the shelf failed before a file was opened, or after taking bytes of it that show no error
pub record LogFileFailed (old new : ShelfSeen) (before : List (List ℕ)) (name : List ℕ) : Type 0 where
  pub fault : Rose old.faults new.faults
  pub took : TookFiles old new [] ⊎ ((bytes : List ℕ) × IsBegun old.files before name bytes × TookFiles old new (bytes ∷ []))
  pub ends : EndsSeenOrOneMore old new 0

-- the result for a file
abbrev pub LogFileTo : ShelfSeen → ShelfSeen → Feeding → List (List ℕ) → List ℕ → Result (Unit {0}) FileFault → Type 0
LogFileTo old new feeding before name (Ok x) = FileSummed old new feeding before name
LogFileTo old new feeding before name (Err Missing) = FileAbsent old new name
LogFileTo old new feeding before name (Err (Read (Log fault))) = LogFileFaulty old new before name fault
LogFileTo old new feeding before name (Err (Read Device)) = LogFileFailed old new before name

-- the files that the arguments from `first` on and before an index name were summed
pub record FilesSoFar (old new : ShelfSeen) (feeding : Feeding) (words : List (List ℕ)) (first place : ℕ) : Type 0 where
  pub logs : List (List ℕ)
  pub count : place ≡ first + length logs
  pub are : AreLogs old.files words first logs
  pub reads : ReadsLogs feeding logs []
  pub no_fault : new.faults ≡ old.faults
  pub took : TookFiles old new logs
  pub ends : EndsSeen old new (length logs)

-- how a call ends if the file that an argument names isn't summed
abbrev pub log_file_end : ℕ → FileFault → SumEnd
log_file_end word Missing = ends.NoFile word
log_file_end word (Read (Log fault)) = sum_end_at (Some word) fault
log_file_end word (Read Device) = ends.ShelfFault
