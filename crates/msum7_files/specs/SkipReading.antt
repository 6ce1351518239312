-- What a result says about logs that are read, and of which the blocks with errors are left out.
-- Source: own.
use Rattle.std.specs.Prelude.{◌≡◌, ◌⊎◌, ◌+◌, ◌^◌, ◌<◌, ℕ, List, [], ◌∷◌, ◌++◌, length, map, Result, Ok, Err}
use Rattle.std.specs.{Io.KnownBytes.{Consumes, IsAtEnd}, declared.vec.Vec.Vec, declared.alloc.Global.Global}
use Rattle.diy_io.specs.{Taken.{SourceSeen, EndedOnce, NotEnded}, Wrote.{SinkSeen, WroteAll, WrotePart}, Sink.line_feed_count}
use Rattle.diy_io.specs.{declared.errors.Failed.Failed, Count.Rose, Shelf.ShelfSeen}
use Rattle.diy_io.specs.Opened.{EndsSeen, EndsSeenOrOneMore, FileAbsent, IsFile, TookFiles}
use Rattle.log_sum.specs.{Sieving.{RepresentsPieces, skipped_view}, Skipping.Skipped, declared.skipping.SkippedBlock.SkippedBlock}
use Rattle.msum7_files.specs.{declared.sum_form.SumForm.SumForm, declared.sifting.Sifting.Sifting, declared.feeding.LogFault.LogFault}
use Rattle.msum7_files.specs.{declared.feeding.LogFault.TheVariants.{Wrong, TooMuch, NoMemory}, declared.feeding.ReadFault.ReadFault}
use Rattle.msum7_files.specs.{declared.feeding.ReadFault.TheVariants.{Log, Device}, declared.files.FileFault.FileFault}
use Rattle.msum7_files.specs.{declared.files.FileFault.TheVariants.{Missing, Read}, Logs.{IsText, IsShort, TookCount, EndsAt}}
use Rattle.msum7_files.specs.{SumEnds.AreLogs, SkipEnds.{IsKeptSum, IsOverfull, IsTaken, TakingFailed}}

-- whole logs and the bytes so far of one more were fed, and the bytes of this one are counted
pub record SiftsLogs (sifting : Sifting) (logs : List (List ℕ)) (bytes : List ℕ) : Type 0 where
  pub represents : RepresentsPieces sifting.summer logs bytes
  pub read : sifting.read ≡ length bytes

-- something holds of the logs that were fed, whatever they are, if no bytes of one more have been fed
abbrev pub ForSifted : Sifting → (List (List ℕ) → Type 0) → Type 0
ForSifted sifting Holds = (logs : List (List ℕ)) → SiftsLogs sifting logs [] → Holds logs

-- bytes are more than 2^40, and this is the line of the byte after these
pub record IsPastFull (bytes : List ℕ) (line : ℕ) : Type 0 where
  pub prefix : List ℕ
  pub more : List ℕ
  pub cut : bytes ≡ prefix ++ more
  pub full : length prefix ≡ 2 ^ 40
  pub some : 0 < length more
  pub number : line ≡ line_feed_count prefix + 1

-- why no more of a log is fed, if these are its bytes so far
abbrev pub IsOver : List ℕ → LogFault → Type 0
IsOver bytes (Wrong error) = ⊥
IsOver bytes (TooMuch line) = IsPastFull bytes line
IsOver bytes NoMemory = Unit {0}

-- the result for a piece of a log, if these are the bytes so far with the piece
abbrev pub SiftedOn : Sifting → List (List ℕ) → List ℕ → Result (Unit {0}) LogFault → Type 0
SiftedOn new logs bytes (Ok x) = SiftsLogs new logs bytes
SiftedOn new logs bytes (Err fault) = IsOver bytes fault

-- the result for the end of a log: the only error is that there is no memory
abbrev pub SiftEnded : Sifting → List (List ℕ) → List ℕ → Result (Unit {0}) LogFault → Type 0
SiftEnded new logs log (Ok x) = SiftsLogs new (logs ++ log ∷ []) []
SiftEnded new logs log (Err fault) = fault ≡ NoMemory

-- bytes of a log were read and fed, the end wasn't seen, and the device hasn't failed
pub record SiftSoFar (old new : SourceSeen) (sifting : Sifting) (logs : List (List ℕ)) : Type 0 where
  pub bytes : List ℕ
  pub consumed : Consumes old.left new.left bytes
  pub taken : TookCount old new (length bytes)
  pub no_end : NotEnded old new
  pub reads : SiftsLogs sifting logs bytes
  pub no_fault : new.faults ≡ old.faults

-- a complete log was read and fed, its end was seen once, and the device hasn't failed
pub record SiftWhole (old new : SourceSeen) (sifting : Sifting) (logs : List (List ℕ)) : Type 0 where
  pub log : List ℕ
  pub text : IsText old.left log
  pub at_end : IsAtEnd new.left
  pub once : EndedOnce old new
  pub taken : TookCount old new (length log)
  pub reads : SiftsLogs sifting logs log
  pub no_fault : new.faults ≡ old.faults

-- what an error says about a log, if these bytes were taken of it
abbrev pub IsOverLog : List ℕ → List ℕ → LogFault → Type 0
IsOverLog log taken (Wrong error) = ⊥
IsOverLog log taken (TooMuch line) = IsOverfull log taken line
IsOverLog log taken NoMemory = Unit {0}

-- no more of a log is taken, for this reason
pub record LogOver (old new : SourceSeen) (fault : LogFault) : Type 0 where
  pub log : List ℕ
  pub text : IsText old.left log
  pub bytes : List ℕ
  pub taken : TookCount old new (length bytes)
  pub ends : EndsAt old new bytes log
  pub is : IsOverLog log bytes fault

-- the result for the reading of a log
abbrev pub SiftReadTo : SourceSeen → SourceSeen → Sifting → List (List ℕ) → Result (Unit {0}) ReadFault → Type 0
SiftReadTo old new sifting logs (Ok x) = SiftWhole old new sifting logs
SiftReadTo old new sifting logs (Err (Log fault)) = LogOver old new fault × (new.faults ≡ old.faults)
SiftReadTo old new sifting logs (Err Device) = TakingFailed old new

-- a complete log was read and fed, its end was seen once, it has at most 2^40 bytes, nothing is left to read, and the device hasn't failed
pub record LogSifted (old new : SourceSeen) (sifting : Sifting) (before : List (List ℕ)) : Type 0 where
  pub log : List ℕ
  pub text : IsText old.left log
  pub at_end : IsAtEnd new.left
  pub once : EndedOnce old new
  pub short : IsShort log
  pub taken : TookCount old new (length log)
  pub reads : SiftsLogs sifting (before ++ log ∷ []) []
  pub no_fault : new.faults ≡ old.faults

-- the result for a log that stays open
abbrev pub SiftedTo : SourceSeen → SourceSeen → Sifting → List (List ℕ) → Result (Unit {0}) ReadFault → Type 0
SiftedTo old new sifting before (Ok x) = LogSifted old new sifting before
SiftedTo old new sifting before (Err (Log fault)) = LogOver old new fault × (new.faults ≡ old.faults)
SiftedTo old new sifting before (Err Device) = TakingFailed old new

-- the result for a log that is closed: it is known before closing, unless the log is read whole and closing fails
abbrev pub SiftClosedTo : SourceSeen → SourceSeen → Sifting → List (List ℕ) → Result (Unit {0}) ReadFault → Type 0
SiftClosedTo old new sifting before (Ok x) = LogSifted old new sifting before
SiftClosedTo old new sifting before (Err (Log fault)) = LogOver old new fault
SiftClosedTo old new sifting before (Err Device) = TakingFailed old new

-- what is kept of whole logs has this sum, and this was done with it
pub record KeptSaid (form : SumForm) (logs : List (List ℕ)) (blocks : List Skipped) (done : List ℕ → Type 0) : Type 0 where
  pub sum : List ℕ
  pub is : IsKeptSum form logs blocks sum
  pub wrote : done sum

-- the sum of what is kept of whole logs was written in a form, or a prefix of it; the blocks that are left out are given
abbrev pub KeptWrote : SumForm → List (List ℕ) → SinkSeen → SinkSeen → Result (Vec SkippedBlock Global) Failed → Type 0
KeptWrote form logs out_old out_new (Ok blocks) = KeptSaid form logs (map skipped_view blocks.items) (WroteAll out_old out_new)
KeptWrote form logs out_old out_new (Err error) = (blocks : List Skipped) × KeptSaid form logs blocks (WrotePart out_old out_new)

-- a file was read, its end was seen once, and the shelf hasn't failed
pub record FileSifted (old new : ShelfSeen) (sifting : Sifting) (before : List (List ℕ)) (name : List ℕ) : Type 0 where
  pub log : List ℕ
  pub text : IsFile old.files name log
  pub short : IsShort log
  pub reads : SiftsLogs sifting (before ++ log ∷ []) []
  pub no_fault : new.faults ≡ old.faults
  pub took : TookFiles old new (log ∷ [])
  pub ends : EndsSeen old new 1

-- no more of a file is taken; the shelf hadn't failed when it was opened, and its end was seen only if all of it was taken
pub record FileOver (old new : ShelfSeen) (name : List ℕ) (fault : LogFault) : Type 0 where
  pub log : List ℕ
  pub text : IsFile old.files name log
  pub bytes : List ℕ
  pub is : IsOverLog log bytes fault
  pub took : TookFiles old new (bytes ∷ [])
  pub ends : EndsSeen old new 0 ⊎ (EndsSeen old new 1 × (bytes ≡ log))
  pub at_open : new.faults_at_open ≡ old.faults

-- the shelf failed before a file was opened, or after taking bytes of it
pub record FileTakingFailed (old new : ShelfSeen) (name : List ℕ) : Type 0 where
  pub fault : Rose old.faults new.faults
  pub took : TookFiles old new [] ⊎ ((bytes : List ℕ) × IsTaken old.files name bytes × TookFiles old new (bytes ∷ []))
  pub ends : EndsSeenOrOneMore old new 0

-- the result for a file
abbrev pub FileSiftedTo : ShelfSeen → ShelfSeen → Sifting → List (List ℕ) → List ℕ → Result (Unit {0}) FileFault → Type 0
FileSiftedTo old new sifting before name (Ok x) = FileSifted old new sifting before name
FileSiftedTo old new sifting before name (Err Missing) = FileAbsent old new name
FileSiftedTo old new sifting before name (Err (Read (Log fault))) = FileOver old new name fault
FileSiftedTo old new sifting before name (Err (Read Device)) = FileTakingFailed old new name

-- the files that the arguments from `first` on and before an index name were read
pub record SiftedSoFar (old new : ShelfSeen) (sifting : Sifting) (words : List (List ℕ)) (first place : ℕ) : Type 0 where
  pub logs : List (List ℕ)
  pub count : place ≡ first + length logs
  pub are : AreLogs old.files words first logs
  pub reads : SiftsLogs sifting logs []
  pub no_fault : new.faults ≡ old.faults
  pub took : TookFiles old new logs
  pub ends : EndsSeen old new (length logs)
