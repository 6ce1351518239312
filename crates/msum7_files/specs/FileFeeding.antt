-- What a result says about a log that is fed to a summer in pieces.
-- Source: own.
use Rattle.std.specs.{Prelude.{◌≡◌, ◌⊎◌, ℕ, List, [], ◌∷◌, ◌++◌, length, Result, Ok, Err}, Io.KnownBytes.{Consumes, IsAtEnd}}
use Rattle.diy_io.specs.{Taken.{SourceSeen, EndedOnce, NotEnded}, Wrote.{SinkSeen, Wrote}, declared.errors.Failed.Failed}
use Rattle.log_sum.specs.Representing.{Represents, logs_text}
use Rattle.msum7_files.specs.{declared.sum_form.SumForm.SumForm, SumForms.{form_text}}
use Rattle.msum7_files.specs.{declared.feeding.Feeding.Feeding, declared.feeding.LogFault.LogFault}
use Rattle.msum7_files.specs.{declared.feeding.LogFault.TheVariants.{Wrong, TooMuch, NoMemory}, declared.feeding.ReadFault.ReadFault}
use Rattle.msum7_files.specs.declared.feeding.ReadFault.TheVariants.{Log, Device}
use Rattle.msum7_files.specs.Logs.{IsText, IsShort, TookCount, EndsAt, PrefixWrong, PrefixFull, UpToFault, IsWrongLog, IsTooMuch, ReadFailed}

-- whole logs and the bytes so far of one more were fed, and the bytes of this one are counted
pub record ReadsLogs (feeding : Feeding) (logs : List (List ℕ)) (bytes : List ℕ) : Type 0 where
  pub represents : Represents feeding.summer logs bytes
  pub read : feeding.read ≡ length bytes

-- something holds of the logs that were fed, whatever they are, if no bytes of one more have been fed
abbrev pub ForLogs : Feeding → (List (List ℕ) → Type 0) → Type 0
ForLogs feeding Holds = (logs : List (List ℕ)) → ReadsLogs feeding logs [] → Holds logs

-- why no more of a log is fed, if these are its bytes so far; without memory nothing is known
abbrev pub IsFaultOfLogs : List (List ℕ) → List ℕ → LogFault → Type 0
IsFaultOfLogs logs bytes (Wrong error) = PrefixWrong logs bytes error
IsFaultOfLogs logs bytes (TooMuch line) = PrefixFull logs bytes line
IsFaultOfLogs logs bytes NoMemory = Unit {0}

-- the result for a piece of a log, if these are the bytes so far with the piece
abbrev pub FedOn : Feeding → List (List ℕ) → List ℕ → Result (Unit {0}) LogFault → Type 0
FedOn new logs bytes (Ok x) = ReadsLogs new logs bytes
FedOn new logs bytes (Err fault) = IsFaultOfLogs logs bytes fault

-- why a log can't be ended: it has the first error of the logs, whatever logs follow, or there was no memory
abbrev pub IsEndFault : List (List ℕ) → List ℕ → LogFault → Type 0
IsEndFault logs log (Wrong error) = (more : List (List ℕ)) → logs_text (logs ++ log ∷ more) ≡ Err error
IsEndFault logs log (TooMuch line) = ⊥
IsEndFault logs log NoMemory = Unit {0}

-- the result for the end of a log
abbrev pub EndedOn : Feeding → List (List ℕ) → List ℕ → Result (Unit {0}) LogFault → Type 0
EndedOn new logs log (Ok x) = ReadsLogs new (logs ++ log ∷ []) []
EndedOn new logs log (Err fault) = IsEndFault logs log fault

-- bytes of a log were read and fed, the end wasn't seen, and the device hasn't failed
pub record ReadSoFar (old new : SourceSeen) (feeding : Feeding) (logs : List (List ℕ)) : Type 0 where
  pub bytes : List ℕ
  pub consumed : Consumes old.left new.left bytes
  pub taken : TookCount old new (length bytes)
  pub no_end : NotEnded old new
  pub reads : ReadsLogs feeding logs bytes
  pub no_fault : new.faults ≡ old.faults

-- a complete log was read and fed, its end was seen once, and the device hasn't failed
pub record ReadWhole (old new : SourceSeen) (feeding : Feeding) (logs : List (List ℕ)) : Type 0 where
  pub log : List ℕ
  pub text : IsText old.left log
  pub at_end : IsAtEnd new.left
  pub once : EndedOnce old new
  pub taken : TookCount old new (length log)
  pub reads : ReadsLogs feeding logs log
  pub no_fault : new.faults ≡ old.faults

-- bytes of a log were read, and no more is fed, for this reason; the end wasn't seen, and the device hasn't failed
pub record ReadPart (old new : SourceSeen) (logs : List (List ℕ)) (fault : LogFault) : Type 0 where
  pub log : List ℕ
  pub text : IsText old.left log
  pub bytes : List ℕ
  pub taken : TookCount old new (length bytes)
  pub no_end : NotEnded old new
  pub up_to : UpToFault logs log bytes
  pub is : IsFaultOfLogs logs bytes fault
  pub no_fault : new.faults ≡ old.faults

-- the device failed while a log was read, or when a log that was summed was closed
pub record LogFailed (old new : SourceSeen) (feeding : Feeding) (before : List (List ℕ)) : Type 0 where
  pub failed : ReadFailed old new before
  pub fed : ReadsLogs feeding before failed.bytes ⊎ ((failed.bytes ≡ failed.log) × ReadsLogs feeding (before ++ failed.log ∷ []) [])

-- the result for the reading of a log
abbrev pub ReadTo : SourceSeen → SourceSeen → Feeding → List (List ℕ) → Result (Unit {0}) ReadFault → Type 0
ReadTo old new feeding logs (Ok x) = ReadWhole old new feeding logs
ReadTo old new feeding logs (Err (Log fault)) = ReadPart old new logs fault
ReadTo old new feeding logs (Err Device) = LogFailed old new feeding logs

-- a complete log was read and summed, its end was seen once, it has at most 2^40 bytes, nothing is left to read, and the device hasn't failed
pub record LogSummed (old new : SourceSeen) (feeding : Feeding) (before : List (List ℕ)) : Type 0 where
  pub log : List ℕ
  pub text : IsText old.left log
  pub at_end : IsAtEnd new.left
  pub once : EndedOnce old new
  pub short : IsShort log
  pub taken : TookCount old new (length log)
  pub reads : ReadsLogs feeding (before ++ log ∷ []) []
  pub no_fault : new.faults ≡ old.faults

-- what an error says about a log after others, if these bytes were taken of the log
abbrev pub IsFaulty : List (List ℕ) → List ℕ → List ℕ → LogFault → Type 0
IsFaulty before log taken (Wrong error) = IsWrongLog before log taken error
IsFaulty before log taken (TooMuch line) = IsTooMuch before log taken line
IsFaulty before log taken NoMemory = Unit {0}

-- a log has an error
pub record LogFaulty (old new : SourceSeen) (before : List (List ℕ)) (fault : LogFault) : Type 0 where
  pub log : List ℕ
  pub text : IsText old.left log
  pub bytes : List ℕ
  pub taken : TookCount old new (length bytes)
  pub ends : EndsAt old new bytes log
  pub is : IsFaulty before log bytes fault

-- the result for a log that stays open
abbrev pub SummedTo : SourceSeen → SourceSeen → Feeding → List (List ℕ) → Result (Unit {0}) ReadFault → Type 0
SummedTo old new feeding before (Ok x) = LogSummed old new feeding before
SummedTo old new feeding before (Err (Log fault)) = LogFaulty old new before fault × (new.faults ≡ old.faults)
SummedTo old new feeding before (Err Device) = LogFailed old new feeding before

-- the result for a log that is closed: it is known before closing, unless the log has no error and closing fails
abbrev pub ClosedTo : SourceSeen → SourceSeen → Feeding → List (List ℕ) → Result (Unit {0}) ReadFault → Type 0
ClosedTo old new feeding before (Ok x) = LogSummed old new feeding before
ClosedTo old new feeding before (Err (Log fault)) = LogFaulty old new before fault
ClosedTo old new feeding before (Err Device) = LogFailed old new feeding before

-- the sum of whole logs was written in a form, or a prefix of it
pub record SumWrote (form : SumForm) (logs : List (List ℕ)) (out_old out_new : SinkSeen) (result : Result (Unit {0}) Failed) : Type 0 where
  pub sum : List ℕ
  pub is : form_text form logs ≡ Ok sum
  pub wrote : Wrote out_old out_new sum result
