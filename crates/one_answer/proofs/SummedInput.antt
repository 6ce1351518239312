-- msum7 over the input ends alike.
use Rattle.std.proofs.Common.{◌≡◌, ◌≤◌, ◌^◌, ℕ, List, [], ◌∷◌, length, Option, Some, None, Ok, Err, refl, sym, ap, subst, arith, inl, inr, ◌∙◌, length-append}
use Rattle.std.specs.Prelude.{Result, ◌⊎◌}
use Rattle.diy_io.specs.{Count.Rose, Sink.shown_after, Taken.SourceSeen, Wrote.{SinkSeen, WroteAll}}
use Rattle.log_sum.specs.{declared.errors.LogError.LogError, Facts.Entry, LogGrammar.all_judged, SumText.{sum_text, table_text}, Representing.{logs_text, logs_table}}
use Rattle.text_parts.specs.ReadingSteps.{◌>>=◌}
use Rattle.msum7_files.specs.{declared.sum_form.SumForm.SumForm, SumForms.{form_text}}
use Rattle.msum7_files.specs.declared.sum_form.SumForm.TheVariants as forms
use Rattle.msum7_files.specs.{declared.sum_end.SumEnd.SumEnd, Logs.{IsShort, IsText, IsTooMuch, IsWrongLog}, SumEnds.{InputSummed, log_error_at}}
use Rattle.msum7_files.specs.declared.sum_end.SumEnd.TheVariants as sums
use Rattle.run_status.specs.{declared.status.Status.Status}
use Rattle.run_status.specs.declared.status.Status.TheVariants as statuses
use Rattle.run_status.specs.declared.status.TextKind.TheVariants.{Log, TooMuch}
use Rattle.diy_tools.specs.SumAnswers.{sum_status}
use Rattle.one_answer.proofs.{LongLogs.{long_log, same_line, wrong_long}, Printed.{Failed, shown_in, AlikeOut}}

-- logs of which this is printed in a form have no error
pub form_right : (form : SumForm) (logs : List (List ℕ)) (printed : List ℕ) → form_text form logs ≡ Ok printed
    → (text : List ℕ) × (logs_text logs ≡ Ok text)
unfolding logs_text logs_table
form_right forms.Log logs printed e = (printed, e)
form_right forms.Table logs printed e = by_judged (all_judged logs) e
  where
    by_judged : (judged : Result (List Entry) LogError) → (judged >>= λ entries. Ok (table_text entries)) ≡ Ok printed
        → (text : List ℕ) × ((judged >>= λ entries. Ok (sum_text entries)) ≡ Ok text)
    by_judged (Ok entries) e = (sum_text entries, refl)
    by_judged (Err error) e = absurd (cc e)

-- the status that a log gives
abbrev of_sum : Result (List ℕ) LogError → Status
of_sum (Ok sum) = statuses.Done
of_sum (Err error) = statuses.BadText None error.line (Log error.kind)

abbrev status_of : List ℕ → Status
status_of log = of_sum (logs_text (log ∷ []))

-- the sum of a log is written in a form
pub record IsSummed (form : SumForm) (all : List ℕ) (before a : SinkSeen) (s : Status) : Type 0 where
  pub sum : List ℕ
  pub short : IsShort all
  pub is : form_text form (all ∷ []) ≡ Ok sum
  pub wrote : WroteAll before a sum
  pub status : s ≡ statuses.Done

-- a log has an error, and nothing is written
pub record IsWrong (all : List ℕ) (before a : SinkSeen) (s : Status) : Type 0 where
  pub bytes : List ℕ
  pub error : LogError
  pub is : IsWrongLog [] all bytes error
  pub stays : a ≡ before
  pub status : s ≡ statuses.BadText None error.line (Log error.kind)

-- a log is too long, and nothing is written
pub record IsLong (all : List ℕ) (before a : SinkSeen) (s : Status) : Type 0 where
  pub bytes : List ℕ
  pub line : ℕ
  pub is : IsTooMuch [] all bytes line
  pub stays : a ≡ before
  pub status : s ≡ statuses.BadText None line TooMuch

-- what a call did that didn't run out of memory
abbrev Did : SumForm → List ℕ → SinkSeen → SinkSeen → Status → Type 0
Did form all before a s = IsSummed form all before a s ⊎ (IsWrong all before a s ⊎ IsLong all before a s)

abbrev Ended : SumForm → List ℕ → SinkSeen → SinkSeen → Status → Type 0
Ended form all before a s = (s ≡ statuses.NoMemory) ⊎ Did form all before a s

pub text_on : (left : Option (List ℕ)) (all log : List ℕ) → left ≡ Some all → IsText left log → all ≡ log
text_on left all log e text = subst (λ (o : Option (List ℕ)). IsText o log) e text

ended : (form : SumForm) (all : List ℕ) (old one : SourceSeen) (before a : SinkSeen) (end : SumEnd) → old.left ≡ Some all
    → (Failed before a → ⊥) → (Rose old.faults one.faults → ⊥)
    → InputSummed form old one before a end → Ended form all before a (sum_status end)
ended form all old one before a sums.NoMemory e none sound h = inl refl
ended form all old one before a sums.OutFault e none sound h = absurd (none h.wrote.fault)
ended form all old one before a sums.InputFault e none sound h = absurd (sound h.0.fault)
ended form all old one before a sums.ShelfFault e none sound h = absurd h
ended form all old one before a (sums.NoFile word) e none sound h = absurd h
ended form all old one before a (sums.Wrong (Some file) line kind) e none sound h = absurd h
ended form all old one before a (sums.TooMuch (Some file) line) e none sound h = absurd h
ended form all old one before a (sums.TooMuch None line) e none sound h =
    let text : all ≡ h.0.log = text_on old.left all h.0.log e h.0.text in
    inr (inr (inr record {
      bytes = h.0.bytes;
      line = line;
      is = subst (λ (t : List ℕ). IsTooMuch [] t h.0.bytes line) (sym text) h.0.is;
      stays = h.1;
      status = refl;
    }))
ended form all old one before a (sums.Wrong None line kind) e none sound h =
    let text : all ≡ h.0.log = text_on old.left all h.0.log e h.0.text in
    inr (inr (inl record {
      bytes = h.0.bytes;
      error = log_error_at line kind;
      is = subst (λ (t : List ℕ). IsWrongLog [] t h.0.bytes (log_error_at line kind)) (sym text) h.0.is;
      stays = h.1;
      status = refl;
    }))
ended form all old one before a sums.Done e none sound h =
    let text : all ≡ h.read.log = text_on old.left all h.read.log e h.read.text in
    inr (inl record {
      sum = h.sum;
      short = subst IsShort (sym text) h.read.short;
      is = ap (λ (t : List ℕ). form_text form (t ∷ [])) text ∙ h.read.is;
      wrote = h.wrote;
      status = refl;
    })

-- a log whose sum is written has no error, and isn't too long
summed_only : (form : SumForm) (all : List ℕ) (before a b : SinkSeen) (s t : Status) → IsSummed form all before a s
    → (IsWrong all before b t ⊎ IsLong all before b t) → ⊥
summed_only form all before a b s t h (inl k) =
    let right = form_right form (all ∷ []) h.sum h.is in ok_err (logs_text (all ∷ [])) right.0 k.error right.1 (k.is.wrong [])
  where
    ok_err : (r : Result (List ℕ) LogError) (text : List ℕ) (error : LogError) → r ≡ Ok text → r ≡ Err error → ⊥
    ok_err r text error p q = cc (p, q)
summed_only form all before a b s t h (inr k) = omega (arith, h.short, long_log [] all k.bytes k.line k.is)

did_same : (form : SumForm) (all : List ℕ) (before a b : SinkSeen) (s t : Status) → Did form all before a s → Did form all before b t
    → (s ≡ t) × (shown_in a ≡ shown_in b)
did_same form all before a b s t (inl h) (inl k) = (
  h.status ∙ sym k.status,
  h.wrote.grew ∙ ap (shown_after (shown_in before)) (same_ok (form_text form (all ∷ [])) h.sum k.sum h.is k.is) ∙ sym k.wrote.grew,
)
  where
    same_ok : (r : Result (List ℕ) LogError) (x y : List ℕ) → r ≡ Ok x → r ≡ Ok y → x ≡ y
    same_ok r x y p q = cc (p, q)
did_same form all before a b s t (inl h) (inr k) = absurd (summed_only form all before a b s t h k)
did_same form all before a b s t (inr h) (inl k) = absurd (summed_only form all before b a t s k h)
did_same form all before a b s t (inr (inl h)) (inr (inr k)) = absurd (wrong_long [] all h.bytes k.bytes h.error k.line h.is k.is)
did_same form all before a b s t (inr (inr h)) (inr (inl k)) = absurd (wrong_long [] all k.bytes h.bytes k.error h.line k.is h.is)
did_same form all before a b s t (inr (inl h)) (inr (inl k)) =
    let error : h.error ≡ k.error = same_error (logs_text (all ∷ [])) h.error k.error (h.is.wrong []) (k.is.wrong []) in
    (h.status ∙ ap (λ (x : LogError). statuses.BadText None x.line (Log x.kind)) error ∙ sym k.status, ap shown_in (h.stays ∙ sym k.stays))
  where
    same_error : (r : Result (List ℕ) LogError) (e f : LogError) → r ≡ Err e → r ≡ Err f → e ≡ f
    same_error r e f p q = cc (p, q)
did_same form all before a b s t (inr (inr h)) (inr (inr k)) = (
  h.status ∙ ap (λ (n : ℕ). statuses.BadText None n TooMuch) (same_line [] all h.bytes k.bytes h.line k.line h.is k.is) ∙ sym k.status,
  ap shown_in (h.stays ∙ sym k.stays),
)

ends_same : (form : SumForm) (all : List ℕ) (before a b : SinkSeen) (s t : Status) → Ended form all before a s → Ended form all before b t
    → AlikeOut s t a b
ends_same form all before a b s t (inl h) k = inl h
ends_same form all before a b s t (inr h) (inl k) = inr (inl k)
ends_same form all before a b s t (inr h) (inr k) = inr (inr (did_same form all before a b s t h k))

-- msum7 over the input
pub input_alike : (form : SumForm) (all : List ℕ) (old one two : SourceSeen) (before a b : SinkSeen) (end other : SumEnd)
    → old.left ≡ Some all → (Failed before a → ⊥) → (Failed before b → ⊥)
    → (Rose old.faults one.faults → ⊥) → (Rose old.faults two.faults → ⊥) → InputSummed form old one before a end
    → InputSummed form old two before b other
    → AlikeOut (sum_status end) (sum_status other) a b
input_alike form all old one two before a b end other e none nothing sound safe h k =
    ends_same form all before a b (sum_status end) (sum_status other)
    (ended form all old one before a end e none sound h) (ended form all old two before b other e nothing safe k)
