-- What is answered of a sum that leaves out blocks, by where its logs are; and which requests ask for one.
use Rattle.std.proofs.Common.{◌≡◌, ◌<◌, ◌≤◌, ℕ, true, false, List, [], length, map, Option, Some, None, Ok, refl, sym, ap, ◌∙◌, subst}
use Rattle.std.specs.Prelude.{Bool, Result, if◌then◌else◌}
use Rattle.std.proofs.lemmas.Bool.{le-ltb, lt-ltb}
use Rattle.diy_io.specs.{Shelf.ShelfSeen, Taken.SourceSeen, Wrote.SinkSeen}
use Rattle.log_sum.specs.Skipping.{Skipped}
use Rattle.msum7_files.specs.declared.sum_form.SumForm.{SumForm}
use Rattle.diy_words.specs.{declared.request.Request.Request, declared.usage.Usage.Usage, Given.GivesTask}
use Rattle.diy_words.specs.Requests.{Task, AsksSum, asked_of}
use Rattle.diy_words.specs.declared.request.WrongBlocks.TheVariants.{End, LeaveOut}
use Rattle.diy_words.specs.declared.request.Request.TheVariants as requests
use Rattle.log_sum.specs.Sieving.{skipped_view}
use Rattle.run_status.specs.{declared.outcome.Outcome.Outcome, declared.status.Status.Status, Report.{TakesLine}, SkippedLines.report_lines}
use Rattle.diy_tools.specs.{Answers.{Answers, AnswersAsked}, Devices.{DevicesSeen, devices}, Reported.{Reports, ReportsFor}}
use Rattle.diy_tools.specs.KeptRequests.{Gives, GivesFor, GivesKept, skipped_request}
use Rattle.diy_tools.specs.SkipAnswers.{EndsKeptAmong, EndsKeptFiles, EndsKeptInput, SkipEnd, first_kept, keep_logs, left_out, skip_status, skipped_form}

-- an outcome says how the summing ended, and from which argument on the logs are named
pub record IsOutcome (outcome : Outcome) (first : Option ℕ) (end : SkipEnd) : Type 0 where
  pub status_is : outcome.status ≡ skip_status end
  pub first_is : outcome.first_log ≡ first
  pub blocks_are : map skipped_view outcome.skipped.items ≡ left_out end

-- where words name logs, the sum of what is kept of the files is what is given
pub kept_files : (form : SumForm) (words : List (List ℕ)) (outcome : Outcome) (end : SkipEnd) (input : SourceSeen) (old new : ShelfSeen) (before after : SinkSeen)
    → first_kept form < length words → IsOutcome outcome (Some (first_kept form)) end → EndsKeptFiles form words end old new before after
    → GivesKept form words outcome (devices (input, before, old)) (devices (input, after, new))
kept_files form words outcome end input old new before after more is h =
    let named : keep_logs form words ≡ true = lt-ltb (first_kept form) (length words) more in
    record {
      end = end;
      ends = subst (λ (b : Bool). EndsKeptAmong b form words end (devices (input, before, old)) (devices (input, after, new))) (sym named)
          (record { input = refl; both = h });
      status_is = is.status_is;
      first_is = is.first_is ∙ sym (ap (λ b. if b then Some (first_kept form) else None) named);
      blocks_are = is.blocks_are;
    }

-- where words name no log, the sum of what is kept of the input is
pub kept_input : (form : SumForm) (words : List (List ℕ)) (outcome : Outcome) (end : SkipEnd) (shelf : ShelfSeen) (old new : SourceSeen) (before after : SinkSeen)
    → length words ≤ first_kept form → IsOutcome outcome None end → EndsKeptInput form end (devices (old, before, shelf)) (devices (new, after, shelf))
    → GivesKept form words outcome (devices (old, before, shelf)) (devices (new, after, shelf))
kept_input form words outcome end shelf old new before after few is h =
    let unnamed : keep_logs form words ≡ false = le-ltb (first_kept form) (length words) few in
    record {
      end = end;
      ends = subst (λ (b : Bool). EndsKeptAmong b form words end (devices (old, before, shelf)) (devices (new, after, shelf))) (sym unnamed) h;
      status_is = is.status_is;
      first_is = is.first_is ∙ sym (ap (λ b. if b then Some (first_kept form) else None) unnamed);
      blocks_are = is.blocks_are;
    }

-- arguments that give a request for a sum that leaves out blocks ask for it
pub asks_kept : (request : Request) (form : SumForm) (asked : Result Task Usage) → GivesTask (Ok request) asked → skipped_request request ≡ Some form
    → asked ≡ Ok (AsksSum form LeaveOut)
asks_kept (requests.Sum own LeaveOut) form (Ok (AsksSum other wrong)) given e =
    let same : own ≡ form = cc e in
    let asked : ◌≡◌ {A = Task} (AsksSum other wrong) (AsksSum form LeaveOut) = cc (same, given.0, given.1) in
    ap Ok asked
asks_kept (requests.Sum own LeaveOut) form asked given e = absurd given
asks_kept (requests.Sum own End) form asked given e = cc e
asks_kept request form asked given e = cc e

-- those that give another request don't
pub asks_whole : (request : Request) (asked : Result Task Usage) → GivesTask (Ok request) asked → skipped_request request ≡ None → skipped_form asked ≡ None
asks_whole (requests.Sum own LeaveOut) asked given e = cc e
asks_whole (requests.Sum own End) (Ok (AsksSum other LeaveOut)) given e = let wrong : End ≡ LeaveOut = given.1 in cc wrong
asks_whole request (Ok (AsksSum other LeaveOut)) given e = absurd given
asks_whole request asked given e = refl

-- an outcome of a sum that leaves out blocks
pub gives_kept : (words : List (List ℕ)) (form : SumForm) (outcome : Outcome) (old new : DevicesSeen) → asked_of words ≡ Ok (AsksSum form LeaveOut)
    → GivesKept form words outcome (devices old) (devices new) → Gives words outcome old new
gives_kept words form outcome old new e h =
    subst (λ (found : Option SumForm). GivesFor found words outcome old new) (sym (ap skipped_form e)) (e, h)

-- an outcome of what leaves out none
pub gives_whole : (words : List (List ℕ)) (outcome : Outcome) (status : Status) (old new : DevicesSeen) → skipped_form (asked_of words) ≡ None
    → outcome.status ≡ status → Answers words status old new → outcome.skipped.items ≡ [] → Gives words outcome old new
gives_whole words outcome status old new e same h none =
    subst (λ (found : Option SumForm). GivesFor found words outcome old new) (sym e)
    (record { answers = subst (λ (s : Status). Answers words s old new) (sym same) h; none = none })

-- what is given is answered
pub given_answers : (words : List (List ℕ)) (outcome : Outcome) (old new : DevicesSeen) → Gives words outcome old new → Answers words outcome.status old new
given_answers words outcome old new h = of_found (skipped_form (asked_of words)) h
  where
    of_found : (found : Option SumForm) → GivesFor found words outcome old new → Answers words outcome.status old new
    of_found None g = g.answers
    of_found (Some form) g =
        subst (λ (asked : Result Task Usage). AnswersAsked words asked outcome.status (devices old) (devices new)) (sym g.0)
        (record { end = g.1.end; ends = g.1.ends; status_is = g.1.status_is })

-- and it is reported
pub given_reports : (words : List (List ℕ)) (outcome : Outcome) (old new : DevicesSeen) (before after : SinkSeen) → Gives words outcome old new
    → TakesLine (report_lines words outcome.first_log (map skipped_view outcome.skipped.items) outcome.status) before after
    → Reports words outcome.status old new before after
given_reports words outcome old new before after h lines = of_found (skipped_form (asked_of words)) h
  where
    of_found : (found : Option SumForm) → GivesFor found words outcome old new
        → ReportsFor found words outcome.status (devices old) (devices new) before after
    of_found None g =
        subst (λ (blocks : List Skipped). TakesLine (report_lines words outcome.first_log blocks outcome.status) before after)
        (ap (map skipped_view) g.none) lines
    of_found (Some form) g = record {
      end = g.1.end;
      ends = g.1.ends;
      status_is = g.1.status_is;
      lines = subst (λ (first : Option ℕ). TakesLine (report_lines words first (left_out g.1.end) outcome.status) before after) g.1.first_is
          (subst (λ (blocks : List Skipped). TakesLine (report_lines words outcome.first_log blocks outcome.status) before after) g.1.blocks_are lines);
    }
