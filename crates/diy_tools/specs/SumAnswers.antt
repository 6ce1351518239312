-- What msum7 does.
-- Source: own.
use Rattle.std.specs.Prelude.{◌≡◌, ℕ, Bool, true, false, nat_lt, List, length}
use Rattle.diy_io.specs.{Shelf.ShelfSeen, Wrote.SinkSeen}
use Rattle.msum7_files.specs.{declared.sum_end.SumEnd.SumEnd, SumEnds.{InputSummed, FilesSummed}}
use Rattle.msum7_files.specs.declared.sum_end.SumEnd.TheVariants as sums
use Rattle.msum7_files.specs.declared.sum_form.SumForm.{SumForm}
use Rattle.msum7_files.specs.declared.sum_form.SumForm.TheVariants as forms
use Rattle.run_status.specs.{declared.status.Status.Status, declared.status.TextKind.TheVariants.{Log, TooMuch}}
use Rattle.run_status.specs.declared.status.Device.TheVariants.{Input, Out, Shelf}
use Rattle.run_status.specs.declared.status.Status.TheVariants.{Done, BadText, NoFile, ReadFault, WriteFault, NoMemory}
use Rattle.diy_tools.specs.Devices.{Devices, InputAndOut, ShelfAndOut}

-- the status for each way in which the summing can end
abbrev pub sum_status : SumEnd → Status
sum_status sums.Done = Done
sum_status (sums.Wrong file line kind) = BadText file line (Log kind)
sum_status (sums.TooMuch file line) = BadText file line TooMuch
sum_status (sums.NoFile word) = NoFile word
sum_status sums.InputFault = ReadFault Input
sum_status sums.ShelfFault = ReadFault Shelf
sum_status sums.OutFault = WriteFault Out
sum_status sums.NoMemory = NoMemory

-- the index of the first argument that can name a log: the first after the tool's name, or after `-table`
abbrev pub first_log : SumForm → ℕ
first_log forms.Log = 1
first_log forms.Table = 2

-- the arguments name a log
abbrev pub name_logs : SumForm → List (List ℕ) → Bool
name_logs form words = nat_lt (first_log form) (length words)

-- the summing, in a form, of the logs that the arguments name ends in this way, and no file changes
pub record EndsFiles (form : SumForm) (words : List (List ℕ)) (end : SumEnd) (old new : ShelfSeen) (before after : SinkSeen) : Type 0 where
  pub summed : FilesSummed form old new words (first_log form) before after end
  pub files : new.files ≡ old.files

-- the summing of the input ends in this way, and the shelf stays as it was
abbrev pub EndsInput : SumForm → SumEnd → Devices → Devices → Type 0
EndsInput form end old new = InputAndOut (λ input input' out out'. InputSummed form input input' out out' end) old new

-- the summing ends in this way: that of the logs that the arguments name if they do, or else of the input
abbrev pub EndsAmong : Bool → SumForm → List (List ℕ) → SumEnd → Devices → Devices → Type 0
EndsAmong true form words end old new = ShelfAndOut (EndsFiles form words end) old new
EndsAmong false form words end old new = EndsInput form end old new

-- so it ends for these arguments
abbrev pub EndsSum : SumForm → List (List ℕ) → SumEnd → Devices → Devices → Type 0
EndsSum form words end old new = EndsAmong (name_logs form words) form words end old new

-- the summing ends, and the status says how
pub record AnswersSum (form : SumForm) (words : List (List ℕ)) (status : Status) (old new : Devices) : Type 0 where
  pub end : SumEnd
  pub ends : EndsSum form words end old new
  pub status_is : status ≡ sum_status end
