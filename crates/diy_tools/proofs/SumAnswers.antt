-- What is answered of a sum, by where its logs are.
use Rattle.std.proofs.Common.{◌<◌, ◌≤◌, ℕ, List, length, refl, sym, subst}
use Rattle.std.specs.Prelude.{Bool}
use Rattle.std.proofs.lemmas.Bool.{le-ltb, lt-ltb}
use Rattle.diy_io.specs.{Shelf.ShelfSeen, Taken.SourceSeen, Wrote.SinkSeen}
use Rattle.msum7_files.specs.declared.sum_form.SumForm.{SumForm}
use Rattle.run_status.specs.{declared.status.Status.Status}
use Rattle.diy_tools.specs.{Devices.devices, SumAnswers.{AnswersSum, EndsAmong, first_log}, KeptRequests.{SumsFiles, SumsInput}}

-- where words name logs, the sum of the files is the answer
pub files_answered : (form : SumForm) (words : List (List ℕ)) (status : Status) (input : SourceSeen) (old new : ShelfSeen) (before after : SinkSeen)
    → first_log form < length words → SumsFiles form words status old new before after
    → AnswersSum form words status (devices (input, before, old)) (devices (input, after, new))
files_answered form words status input old new before after more h = record {
  end = h.end;
  ends = subst (λ (b : Bool). EndsAmong b form words h.end (devices (input, before, old)) (devices (input, after, new))) (sym (lt-ltb (first_log form) (length words) more))
      (record { input = refl; both = record { summed = h.summed; files = h.files } });
  status_is = h.status_is;
}

-- where words name no log, the sum of the input is the answer
pub input_answered : (form : SumForm) (words : List (List ℕ)) (status : Status) (shelf : ShelfSeen) (old new : SourceSeen) (before after : SinkSeen)
    → length words ≤ first_log form → SumsInput form status old new before after
    → AnswersSum form words status (devices (old, before, shelf)) (devices (new, after, shelf))
input_answered form words status shelf old new before after few h = record {
  end = h.end;
  ends = subst (λ (b : Bool). EndsAmong b form words h.end (devices (old, before, shelf)) (devices (new, after, shelf))) (sym (le-ltb (first_log form) (length words) few))
      (record { shelf = refl; both = h.summed });
  status_is = h.status_is;
}
