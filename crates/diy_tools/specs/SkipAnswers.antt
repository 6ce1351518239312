-- What msum7 does with -skip.
-- Source: own.
use Rattle.std.specs.{Prelude.{◌≡◌, ◌+◌, ℕ, Bool, true, false, nat_lt, if◌then◌else◌, List, [], ◌∷◌, length, map, Option, Some, None, Result, Ok, Err}}
use Rattle.std.specs.{declared.vec.Vec.Vec, declared.alloc.Global.Global}
use Rattle.diy_io.specs.{Shelf.ShelfSeen, Wrote.SinkSeen}
use Rattle.log_sum.specs.Skipping.{Skipped}
use Rattle.log_sum.specs.Sieving.{skipped_view}
use Rattle.log_sum.specs.declared.skipping.SkippedBlock.{SkippedBlock}
use Rattle.msum7_files.specs.{declared.sum_end.SumEnd.SumEnd, declared.sum_form.SumForm.SumForm}
use Rattle.msum7_files.specs.SkipEnds.{InputSkipped, FilesSkipped}
use Rattle.diy_words.specs.declared.usage.Usage.{Usage}
use Rattle.diy_words.specs.{Requests.{Task, AsksSum}, declared.request.WrongBlocks.TheVariants.LeaveOut}
use Rattle.run_status.specs.declared.status.Status.{Status}
use Rattle.run_status.specs.declared.status.Status.TheVariants as statuses
use Rattle.diy_tools.specs.{Devices.{Devices, InputAndOut, ShelfAndOut}, SumAnswers.{first_log, sum_status}}

-- how the summing without the blocks that have errors can end: the sum was written, and these blocks were left out; or it ended so
abbrev pub SkipEnd : Type 0
SkipEnd = Result (Vec SkippedBlock Global) SumEnd

-- the blocks that were left out, if the sum was written
abbrev pub left_out : SkipEnd → List Skipped
left_out (Ok blocks) = map skipped_view blocks.items
left_out (Err end) = []

-- the status where the sum was written: whether blocks were left out
abbrev pub kept_status : List SkippedBlock → Status
kept_status [] = statuses.Done
kept_status (block ∷ blocks) = statuses.Skipped

-- the status for each way in which the summing can end
abbrev pub skip_status : SkipEnd → Status
skip_status (Ok blocks) = kept_status blocks.items
skip_status (Err end) = sum_status end

-- the index of the first argument that can name a log: one more than without -skip
abbrev pub first_kept : SumForm → ℕ
first_kept form = first_log form + 1

-- the arguments name a log
abbrev pub keep_logs : SumForm → List (List ℕ) → Bool
keep_logs form words = nat_lt (first_kept form) (length words)

-- the index of the argument that names the first log, or none if the input is summed
abbrev pub first_named : SumForm → List (List ℕ) → Option ℕ
first_named form words = if keep_logs form words then Some (first_kept form) else None

-- the summing, in a form, of the logs that the arguments name ends in this way, and no file changes
pub record EndsKeptFiles (form : SumForm) (words : List (List ℕ)) (end : SkipEnd) (old new : ShelfSeen) (before after : SinkSeen) : Type 0 where
  pub kept : FilesSkipped form old new words (first_kept form) before after end
  pub files : new.files ≡ old.files

-- the summing of the input ends in this way, and the shelf stays as it was
abbrev pub EndsKeptInput : SumForm → SkipEnd → Devices → Devices → Type 0
EndsKeptInput form end old new = InputAndOut (λ input input' out out'. InputSkipped form input input' out out' end) old new

-- the summing ends in this way: that of the logs that the arguments name if they do, or else of the input
abbrev pub EndsKeptAmong : Bool → SumForm → List (List ℕ) → SkipEnd → Devices → Devices → Type 0
EndsKeptAmong true form words end old new = ShelfAndOut (EndsKeptFiles form words end) old new
EndsKeptAmong false form words end old new = EndsKeptInput form end old new

-- so it ends for these arguments
abbrev pub EndsKept : SumForm → List (List ℕ) → SkipEnd → Devices → Devices → Type 0
EndsKept form words end old new = EndsKeptAmong (keep_logs form words) form words end old new

-- the summing ends, and the status says how
pub record AnswersKeptSum (form : SumForm) (words : List (List ℕ)) (status : Status) (old new : Devices) : Type 0 where
  pub end : SkipEnd
  pub ends : EndsKept form words end old new
  pub status_is : status ≡ skip_status end

-- the sum is written, and this holds of the blocks that were left out
pub record WritesKept (form : SumForm) (words : List (List ℕ)) (Are : List SkippedBlock → Type 0) (old new : Devices) : Type 0 where
  pub blocks : Vec SkippedBlock Global
  pub ends : EndsKept form words (Ok blocks) old new
  pub are : Are blocks.items

-- the form of the sum, if the arguments ask msum7 for one that leaves out the blocks with errors
abbrev pub skipped_form : Result Task Usage → Option SumForm
skipped_form (Ok (AsksSum form LeaveOut)) = Some form
skipped_form _ = None
