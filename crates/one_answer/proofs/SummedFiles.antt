-- msum7 over files ends alike.
use Rattle.std.proofs.Common.{◌≡◌, ◌≤◌, ◌<◌, ◌++◌, ◌+◌, ◌^◌, ℕ, suc, List, [], ◌∷◌, length, get_or, Option, Some, None, Ok, Err, refl, sym, ap, subst, arith, inl, inr, ◌∙◌, append_assoc, length-append}
use Rattle.std.proofs.lemmas.Option.{slice_get-get_or, slice_get_within, get_or_from_slice_get, same_Some}
use Rattle.std.specs.Prelude.{Result, ◌⊎◌, Bool, true, false, MatchOption, nat_lt, slice_get}
use Rattle.std.proofs.lemmas.Bool.Decides.{nat_tests}
use Rattle.diy_io.specs.{Count.Rose, Opened.IsFile, Sink.{shown_after, line_feed_count}, Shelf.{Files, ShelfSeen}, Wrote.{SinkSeen, WroteAll}}
use Rattle.log_sum.specs.{declared.errors.LogError.LogError, Representing.{logs_text}}
use Rattle.msum7_files.specs.{declared.sum_form.SumForm.SumForm, SumForms.{form_text}}
use Rattle.msum7_files.specs.{declared.sum_end.SumEnd.SumEnd, Logs.{IsShort, IsTooMuch, IsWrongLog, AreWholeLogs, PrefixWrong}, SumEnds.{AreLogs, IsAtWord, FilesSummed, log_error_at}}
use Rattle.msum7_files.specs.declared.sum_end.SumEnd.TheVariants as sums
use Rattle.run_status.specs.{declared.status.Status.Status}
use Rattle.run_status.specs.declared.status.Status.TheVariants as statuses
use Rattle.run_status.specs.declared.status.TextKind.TheVariants.{Log, TooMuch}
use Rattle.diy_tools.specs.SumAnswers.{sum_status}
use Rattle.one_answer.proofs.{LongLogs.{long_log, same_line, wrong_long}, Printed.{Failed, shown_in, AlikeOut}, SummedInput.{form_right}}

pub none_some : {X : Type 0} (x : X) → None ≡ Some x → ⊥
none_some x e = cc e

-- a list that begins as another one does, and then has an element
splits : {X : Type 0} (before all : List X) (x : X) → ((k : ℕ) (y : X) → slice_get before k ≡ Some y → slice_get all k ≡ Some y)
    → slice_get all (length before) ≡ Some x → (more : List X) × (all ≡ before ++ x ∷ more)
splits [] [] x same here = absurd (none_some x here)
splits [] (y ∷ all) x same here = (all, ap (λ z. z ∷ all) (same_Some y x here))
splits (b ∷ before) [] x same here = absurd (none_some b (same 0 b refl))
splits (b ∷ before) (y ∷ all) x same here =
    let rest = splits before all x (λ k z h. same (suc k) z h) here in
    let first = same_Some y b (same 0 b refl) in
    (rest.0, ap (λ z. z ∷ all) first ∙ ap (λ zs. b ∷ zs) rest.1)

-- a list that begins as another one of the same length is that one
pub same_list : {X : Type 0} (xs ys : List X) → length xs ≡ length ys → ((k : ℕ) (y : X) → slice_get xs k ≡ Some y
    → slice_get ys k ≡ Some y) → xs ≡ ys
same_list [] [] e same = refl
same_list [] (y ∷ ys) e same = absurd (omega (arith, e))
same_list (x ∷ xs) [] e same = absurd (omega (arith, e))
same_list (x ∷ xs) (y ∷ ys) e same =
    ap (λ z. z ∷ xs) (sym (same_Some y x (same 0 x refl)))
    ∙ ap (λ zs. y ∷ zs) (same_list xs ys (omega (arith, e)) (λ k z h. same (suc k) z h))

pub file_on : (shown : Option Files) (files : Files) (name log : List ℕ) → shown ≡ Some files → IsFile shown name log → files name ≡ Some log
file_on shown files name log e named = subst (λ (o : Option Files). IsFile o name log) e named

-- the log of a place
pub log_at : (files : Files) (words : List (List ℕ)) (first : ℕ) (logs : List (List ℕ)) (k : ℕ) (log : List ℕ) → first + k < length words
    → AreLogs (Some files) words first logs
    → slice_get logs k ≡ Some log
    → files (get_or words (first + k) []) ≡ Some log
log_at files words first logs k log inside are at =
    are.named k (get_or words (first + k) []) log (slice_get-get_or words (first + k) [] inside) at

-- the logs that two calls found are the same, as far as both go
pub agree : (files : Files) (words : List (List ℕ)) (first : ℕ) (logs others : List (List ℕ)) → first + length logs ≤ length words
    → length logs ≤ length others
    → AreLogs (Some files) words first logs → AreLogs (Some files) words first others → (k : ℕ) (log : List ℕ) → slice_get logs k ≡ Some log
    → slice_get others k ≡ Some log
agree files words first logs others few less are also k log h =
    let inside : k < length logs = slice_get_within logs k log h in
    let one : files (get_or words (first + k) []) ≡ Some log = log_at files words first logs k log (omega (arith, inside, few)) are h in
    let there : slice_get others k ≡ Some (get_or others k []) = slice_get-get_or others k [] (omega (arith, inside, less)) in
    let two : files (get_or words (first + k) []) ≡ Some (get_or others k []) =
    log_at files words first others k (get_or others k []) (omega (arith, inside, few)) also there in
    there ∙ sym two ∙ one

-- where a call stopped: at the file of a place, after right logs
pub record Spot (files : Files) (words : List (List ℕ)) (first : ℕ) : Type 0 where
  pub before : List (List ℕ)
  pub name : List ℕ
  pub are : AreLogs (Some files) words first before
  pub word : slice_get words (first + length before) ≡ Some name
  pub right : AreWholeLogs before

pub record IsWrong (files : Files) (first : ℕ) (before : List (List ℕ)) (name : List ℕ) (s : Status) : Type 0 where
  pub log : List ℕ
  pub there : files name ≡ Some log
  pub bytes : List ℕ
  pub error : LogError
  pub is : IsWrongLog before log bytes error
  pub status : s ≡ statuses.BadText (Some (first + length before)) error.line (Log error.kind)

pub record IsLong (files : Files) (first : ℕ) (before : List (List ℕ)) (name : List ℕ) (s : Status) : Type 0 where
  pub log : List ℕ
  pub there : files name ≡ Some log
  pub bytes : List ℕ
  pub line : ℕ
  pub is : IsTooMuch before log bytes line
  pub status : s ≡ statuses.BadText (Some (first + length before)) line TooMuch

pub record IsMissing (files : Files) (first : ℕ) (before : List (List ℕ)) (name : List ℕ) (s : Status) : Type 0 where
  pub there : files name ≡ None
  pub status : s ≡ statuses.NoFile (first + length before)

-- why it stopped
abbrev pub Why : Files → ℕ → List (List ℕ) → List ℕ → Status → Type 0
Why files first before name s = IsWrong files first before name s ⊎ (IsLong files first before name s ⊎ IsMissing files first before name s)

err_ok : (text : List ℕ) (error : LogError) (r : Result (List ℕ) LogError) → r ≡ Ok text → r ≡ Err error → ⊥
err_ok text error r p q = cc (p, q)

-- what lies before another call's logs is none of these
pub none_before : (files : Files) (words : List (List ℕ)) (first : ℕ) (spot : Spot files words first) (s : Status) (others : List (List ℕ))
    → Why files first spot.before spot.name s → length spot.before < length others
    → AreLogs (Some files) words first others → AreWholeLogs others → ⊥
none_before files words first spot s others why less also right = of_why why
  where
    inside : first + length spot.before < length words
    inside = slice_get_within words (first + length spot.before) spot.name spot.word

    name_is : get_or words (first + length spot.before) [] ≡ spot.name
    name_is = get_or_from_slice_get words (first + length spot.before) spot.name [] spot.word

    there : slice_get others (length spot.before) ≡ Some (get_or others (length spot.before) [])
    there = slice_get-get_or others (length spot.before) [] less

    found : files spot.name ≡ Some (get_or others (length spot.before) [])
    found = ap files (sym name_is)
        ∙ log_at files words first others (length spot.before) (get_or others (length spot.before) []) inside also there

    of_why : Why files first spot.before spot.name s → ⊥
    of_why (inr (inr missing)) = none_some (get_or others (length spot.before) []) (sym missing.there ∙ found)
    of_why (inr (inl long)) =
        let is : get_or others (length spot.before) [] ≡ long.log =
        same_Some (get_or others (length spot.before) []) long.log (sym found ∙ long.there) in
        let short : length (get_or others (length spot.before) []) ≤ 2 ^ 40 = also.short (length spot.before) [] less in
        let many : 2 ^ 40 < length long.log = long_log spot.before long.log long.bytes long.line long.is in
        omega (arith, ap length is)
    of_why (inl wrong) =
        let parts = splits spot.before others wrong.log
        (agree files words first spot.before others (omega (arith, inside)) (omega (arith, less)) spot.are also)
        (there ∙ sym found ∙ wrong.there) in
        err_ok right.text wrong.error (logs_text others) right.is (ap logs_text parts.1 ∙ wrong.is.wrong parts.0)

same_error : (r : Result (List ℕ) LogError) (e f : LogError) → r ≡ Err e → r ≡ Err f → e ≡ f
same_error r e f p q = cc (p, q)

same_file : (r : Option (List ℕ)) (x y : List ℕ) → r ≡ Some x → r ≡ Some y → y ≡ x
same_file r x y p q = cc (p, q)

-- the same file after the same logs gives one status
same_why : (files : Files) (first : ℕ) (before : List (List ℕ)) (name : List ℕ) (s t : Status) → Why files first before name s
    → Why files first before name t
    → s ≡ t
same_why files first before name s t (inl h) (inl k) =
    let log : k.log ≡ h.log = same_file (files name) h.log k.log h.there k.there in
    let error : h.error ≡ k.error =
    same_error (logs_text (before ++ h.log ∷ [])) h.error k.error (h.is.wrong []) (ap (λ z. logs_text (before ++ z ∷ [])) (sym log)
    ∙ k.is.wrong []) in
    h.status ∙ ap (λ (x : LogError). statuses.BadText (Some (first + length before)) x.line (Log x.kind)) error ∙ sym k.status
same_why files first before name s t (inl h) (inr (inl k)) =
    let log : k.log ≡ h.log = same_file (files name) h.log k.log h.there k.there in
    absurd (wrong_long before h.log h.bytes k.bytes h.error k.line h.is
    (subst (λ (z : List ℕ). IsTooMuch before z k.bytes k.line) log k.is))
same_why files first before name s t (inr (inl h)) (inl k) =
    let log : k.log ≡ h.log = same_file (files name) h.log k.log h.there k.there in
    absurd (wrong_long before k.log k.bytes h.bytes k.error h.line k.is
    (subst (λ (z : List ℕ). IsTooMuch before z h.bytes h.line) (sym log) h.is))
same_why files first before name s t (inr (inl h)) (inr (inl k)) =
    let log : k.log ≡ h.log = same_file (files name) h.log k.log h.there k.there in
    let line = same_line before h.log h.bytes k.bytes h.line k.line h.is (subst (λ (z : List ℕ). IsTooMuch before z k.bytes k.line) log k.is) in
    h.status ∙ ap (λ (n : ℕ). statuses.BadText (Some (first + length before)) n TooMuch) line ∙ sym k.status
same_why files first before name s t (inl h) (inr (inr k)) = absurd (none_some h.log (sym k.there ∙ h.there))
same_why files first before name s t (inr (inl h)) (inr (inr k)) = absurd (none_some h.log (sym k.there ∙ h.there))
same_why files first before name s t (inr (inr h)) (inl k) = absurd (none_some k.log (sym h.there ∙ k.there))
same_why files first before name s t (inr (inr h)) (inr (inl k)) = absurd (none_some k.log (sym h.there ∙ k.there))
same_why files first before name s t (inr (inr h)) (inr (inr k)) = h.status ∙ sym k.status

-- all logs were read, and their sum is written
pub record IsSummed (form : SumForm) (files : Files) (words : List (List ℕ)) (first : ℕ) (before a : SinkSeen) (s : Status) : Type 0 where
  pub logs : List (List ℕ)
  pub sum : List ℕ
  pub all : first + length logs ≡ length words
  pub are : AreLogs (Some files) words first logs
  pub is : form_text form logs ≡ Ok sum
  pub wrote : WroteAll before a sum
  pub status : s ≡ statuses.Done

-- a call stopped, and nothing is written
pub record IsStopped (files : Files) (words : List (List ℕ)) (first : ℕ) (before a : SinkSeen) (s : Status) : Type 0 where
  pub spot : Spot files words first
  pub why : Why files first spot.before spot.name s
  pub stays : a ≡ before

abbrev Ended : SumForm → Files → List (List ℕ) → ℕ → SinkSeen → SinkSeen → Status → Type 0
Ended form files words first before a s =
    (s ≡ statuses.NoMemory) ⊎ (IsSummed form files words first before a s ⊎ IsStopped files words first before a s)

abbrev pub spot_of : (files : Files) (words : List (List ℕ)) (first : ℕ) (before : List (List ℕ)) (name : List ℕ) (place : ℕ)
    (shown : Option Files) → shown ≡ Some files → IsAtWord shown words first place before name → AreWholeLogs before
    → Spot files words first
spot_of files words first before name place shown e at right = record {
  before = before;
  name = name;
  are = subst (λ (o : Option Files). AreLogs o words first before) e at.are;
  word = subst (λ (n : ℕ). slice_get words n ≡ Some name) at.count at.word;
  right = right;
}

ended : (form : SumForm) (files : Files) (words : List (List ℕ)) (first : ℕ) (old one : ShelfSeen) (before a : SinkSeen) (end : SumEnd)
    → old.files ≡ Some files
    → (Failed before a → ⊥) → (Rose old.faults one.faults → ⊥)
    → FilesSummed form old one words first before a end → Ended form files words first before a (sum_status end)
ended form files words first old one before a sums.NoMemory e none sound h = inl refl
ended form files words first old one before a sums.OutFault e none sound h = absurd (none h.wrote.fault)
ended form files words first old one before a sums.ShelfFault e none sound h = absurd (sound h.0.fault)
ended form files words first old one before a sums.InputFault e none sound h = absurd h
ended form files words first old one before a (sums.Wrong None line kind) e none sound h = absurd h
ended form files words first old one before a (sums.TooMuch None line) e none sound h = absurd h
ended form files words first old one before a sums.Done e none sound h =
    inr (inl record {
      logs = h.read.logs;
      sum = h.sum;
      all = h.read.all;
      are = subst (λ (o : Option Files). AreLogs o words first h.read.logs) e h.read.are;
      is = h.read.is;
      wrote = h.wrote;
      status = refl;
    })
ended form files words first old one before a (sums.Wrong (Some place) line kind) e none sound h =
    inr (inr record {
      spot = spot_of files words first h.0.before h.0.name place old.files e h.0.place_is h.0.is.right_before;
      why = inl record {
        log = h.0.log;
        there = file_on old.files files h.0.name h.0.log e h.0.text;
        bytes = h.0.bytes;
        error = log_error_at line kind;
        is = h.0.is;
        status = ap (λ (n : ℕ). statuses.BadText (Some n) line (Log kind)) h.0.place_is.count;
      };
      stays = h.1;
    })
ended form files words first old one before a (sums.TooMuch (Some place) line) e none sound h =
    inr (inr record {
      spot = spot_of files words first h.0.before h.0.name place old.files e h.0.place_is h.0.is.right_before;
      why = inr (inl record {
        log = h.0.log;
        there = file_on old.files files h.0.name h.0.log e h.0.text;
        bytes = h.0.bytes;
        line = line;
        is = h.0.is;
        status = ap (λ (n : ℕ). statuses.BadText (Some n) line TooMuch) h.0.place_is.count;
      });
      stays = h.1;
    })
ended form files words first old one before a (sums.NoFile place) e none sound h =
    inr (inr record {
      spot = spot_of files words first h.0.before h.0.name place old.files e h.0.place_is h.0.right_before;
      why = inr (inr record {
        there = subst (λ (o : Option Files). MatchOption o (Rose old.faults one.faults) (λ there. there h.0.name ≡ None)) e h.0.absent;
        status = ap statuses.NoFile h.0.place_is.count;
      });
      stays = h.1;
    })

-- two calls stopped at one place
spots_same : (files : Files) (words : List (List ℕ)) (first : ℕ) (p q : Spot files words first) (s t : Status)
    → length p.before ≡ length q.before
    → Why files first p.before p.name s → Why files first q.before q.name t → s ≡ t
spots_same files words first p q s t e h k =
    let inside : first + length p.before < length words = slice_get_within words (first + length p.before) p.name p.word in
    let logs : p.before ≡ q.before =
    same_list p.before q.before e (agree files words first p.before q.before (omega (arith, inside)) (omega (arith, e)) p.are q.are) in
    let name : p.name ≡ q.name = same_Some p.name q.name (sym p.word ∙ ap (λ (n : ℕ). slice_get words (first + n)) e ∙ q.word) in
    same_why files first q.before q.name s t
    (subst (λ (z : List ℕ). Why files first q.before z s) name (subst (λ (zs : List (List ℕ)). Why files first zs p.name s) logs h)) k

pub order : (m n : ℕ) → (m < n) ⊎ ((m ≡ n) ⊎ (n < m))
order m n = by_test (nat_lt m n) refl (nat_lt n m) refl
  where
    by_test : (b : Bool) → nat_lt m n ≡ b → (c : Bool) → nat_lt n m ≡ c → (m < n) ⊎ ((m ≡ n) ⊎ (n < m))
    by_test true e c f = inl (grind (arith, nat_tests, e))
    by_test false e true f = inr (inr (grind (arith, nat_tests, f)))
    by_test false e false f = inr (inl (grind (arith, nat_tests, e, f)))

pub stops_same : (files : Files) (words : List (List ℕ)) (first : ℕ) (p q : Spot files words first) (s t : Status)
    → Why files first p.before p.name s
    → Why files first q.before q.name t → s ≡ t
stops_same files words first p q s t h k = by_order (order (length p.before) (length q.before))
  where
    by_order : ((length p.before < length q.before) ⊎ ((length p.before ≡ length q.before) ⊎ (length q.before < length p.before))) → s ≡ t
    by_order (inl less) = absurd (none_before files words first p s q.before h less q.are q.right)
    by_order (inr (inl e)) = spots_same files words first p q s t e h k
    by_order (inr (inr more)) = absurd (none_before files words first q t p.before k more p.are p.right)

-- logs of which this is printed in a form are whole
whole_logs : (form : SumForm) (logs : List (List ℕ)) (printed : List ℕ) → form_text form logs ≡ Ok printed → AreWholeLogs logs
whole_logs form logs printed e = let right = form_right form logs printed e in record { text = right.0; is = right.1 }

-- a call that summed all logs didn't stop
never_both : (form : SumForm) (files : Files) (words : List (List ℕ)) (first : ℕ) (before a b : SinkSeen) (s t : Status)
    → IsSummed form files words first before a s
    → IsStopped files words first before b t → ⊥
never_both form files words first before a b s t h k =
    none_before files words first k.spot t h.logs k.why
    (omega (arith, h.all, slice_get_within words (first + length k.spot.before) k.spot.name k.spot.word)) h.are
    (whole_logs form h.logs h.sum h.is)

ends_same : (form : SumForm) (files : Files) (words : List (List ℕ)) (first : ℕ) (before a b : SinkSeen) (s t : Status)
    → Ended form files words first before a s
    → Ended form files words first before b t → AlikeOut s t a b
ends_same form files words first before a b s t (inl h) k = inl h
ends_same form files words first before a b s t (inr h) (inl k) = inr (inl k)
ends_same form files words first before a b s t (inr (inl h)) (inr (inr k)) = absurd (never_both form files words first before a b s t h k)
ends_same form files words first before a b s t (inr (inr h)) (inr (inl k)) = absurd (never_both form files words first before b a t s k h)
ends_same form files words first before a b s t (inr (inr h)) (inr (inr k)) =
    inr (inr (stops_same files words first h.spot k.spot s t h.why k.why, ap shown_in (h.stays ∙ sym k.stays)))
ends_same form files words first before a b s t (inr (inl h)) (inr (inl k)) =
    let logs : h.logs ≡ k.logs =
    same_list h.logs k.logs (omega (arith, h.all, k.all))
    (agree files words first h.logs k.logs (omega (arith, h.all)) (omega (arith, h.all, k.all)) h.are k.are) in
    let sum : h.sum ≡ k.sum = same_ok (form_text form k.logs) h.sum k.sum (ap (form_text form) (sym logs) ∙ h.is) k.is in
    inr (inr (h.status ∙ sym k.status, h.wrote.grew ∙ ap (shown_after (shown_in before)) sum ∙ sym k.wrote.grew))
  where
    same_ok : (r : Result (List ℕ) LogError) (x y : List ℕ) → r ≡ Ok x → r ≡ Ok y → x ≡ y
    same_ok r x y p q = cc (p, q)

-- msum7 over files
pub sums_alike : (form : SumForm) (files : Files) (words : List (List ℕ)) (first : ℕ) (old one two : ShelfSeen) (before a b : SinkSeen)
    (end other : SumEnd)
    → old.files ≡ Some files → (Failed before a → ⊥) → (Failed before b → ⊥) → (Rose old.faults one.faults → ⊥)
    → (Rose old.faults two.faults → ⊥)
    → FilesSummed form old one words first before a end → FilesSummed form old two words first before b other
    → AlikeOut (sum_status end) (sum_status other) a b
sums_alike form files words first old one two before a b end other e none nothing sound safe h k =
    ends_same form files words first before a b (sum_status end) (sum_status other)
    (ended form files words first old one before a end e none sound h)
    (ended form files words first old two before b other e nothing safe k)
