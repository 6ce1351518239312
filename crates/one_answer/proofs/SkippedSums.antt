-- msum7 -skip ends alike.
use Rattle.std.proofs.Common.{◌≡◌, ◌≤◌, ◌<◌, ◌++◌, ◌+◌, ◌^◌, ℕ, List, [], ◌∷◌, length, get_or, Option, Some, None, Ok, Err, refl, sym, ap, subst, arith, inl, inr, ◌∙◌, append_assoc, length-append}
use Rattle.std.proofs.lemmas.Option.{slice_get-get_or, slice_get_within, get_or_from_slice_get, same_Some}
use Rattle.std.specs.Prelude.{Result, ◌⊎◌, MatchOption, map, slice_get}
use Rattle.diy_io.specs.{Count.Rose, Sink.{shown_after, line_feed_count}, Shelf.{Files, ShelfSeen}, Taken.SourceSeen, Wrote.{SinkSeen, WroteAll}}
use Rattle.log_sum.specs.{Sieving.skipped_view, Skipping.{Skipped, sifted}, declared.errors.LogError.LogError, declared.skipping.SkippedBlock.SkippedBlock}
use Rattle.msum7_files.specs.{declared.sum_end.SumEnd.SumEnd, declared.sum_form.SumForm.SumForm, SumForms.form_text, Logs.IsShort, SumEnds.{AreLogs, IsAtWord}}
use Rattle.msum7_files.specs.SkipEnds.{IsKeptSum, IsOverfull, InputSkipped, FilesSkipped}
use Rattle.msum7_files.specs.declared.sum_end.SumEnd.TheVariants as sums
use Rattle.run_status.specs.declared.status.Status.{Status}
use Rattle.run_status.specs.declared.status.Status.TheVariants as statuses
use Rattle.run_status.specs.declared.status.TextKind.TheVariants.{TooMuch}
use Rattle.diy_tools.specs.SkipAnswers.{SkipEnd, kept_status, skip_status}
use Rattle.one_answer.proofs.{Beginnings.same_start, Printed.{Failed, shown_in, AlikeOut}}
use Rattle.one_answer.proofs.{SummedFiles.{agree, file_on, log_at, none_some, order, same_list}, SummedInput.text_on}

-- a log that is overfull has more than 2^40 bytes
overfull_long : (log taken : List ℕ) (line : ℕ) → IsOverfull log taken line → 2 ^ 40 < length log
overfull_long log taken line h =
    omega (arith, h.full, h.some, ap length h.parts, length-append taken h.rest, ap length h.cut, length-append h.prefix h.more)

-- it is overfull at one line
overfull_line : (log taken bytes : List ℕ) (line other : ℕ) → IsOverfull log taken line → IsOverfull log bytes other → line ≡ other
overfull_line log taken bytes line other h k =
    let one : log ≡ h.prefix ++ (h.more ++ h.rest) = h.parts ∙ ap (λ (z : List ℕ). z ++ h.rest) h.cut ∙ append_assoc h.prefix h.more h.rest in
    let two : log ≡ k.prefix ++ (k.more ++ k.rest) = k.parts ∙ ap (λ (z : List ℕ). z ++ k.rest) k.cut ∙ append_assoc k.prefix k.more k.rest in
    let start : h.prefix ≡ k.prefix = same_start h.prefix k.prefix _ _ (h.full ∙ sym k.full) (sym one ∙ two) in
    h.number ∙ ap (λ (z : List ℕ). line_feed_count z + 1) start ∙ sym k.number

-- as many blocks as were left out give one status
one_status : (blocks others : List SkippedBlock) → map skipped_view blocks ≡ map skipped_view others → kept_status blocks ≡ kept_status others
one_status [] [] e = refl
one_status [] (other ∷ others) e = absurd (cc e)
one_status (block ∷ blocks) [] e = absurd (cc e)
one_status (block ∷ blocks) (other ∷ others) e = refl

-- what is kept of logs is written in a form
pub record IsKept (form : SumForm) (logs : List (List ℕ)) (before a : SinkSeen) (s : Status) : Type 0 where
  pub blocks : List SkippedBlock
  pub sum : List ℕ
  pub is : IsKeptSum form logs (map skipped_view blocks) sum
  pub wrote : WroteAll before a sum
  pub status : s ≡ kept_status blocks

kept_same : (form : SumForm) (logs : List (List ℕ)) (before a b : SinkSeen) (s t : Status) → IsKept form logs before a s → IsKept form logs before b t
    → (s ≡ t) × (shown_in a ≡ shown_in b)
kept_same form logs before a b s t h k = (
  h.status ∙ one_status h.blocks k.blocks (h.is.blocks_are ∙ sym k.is.blocks_are) ∙ sym k.status,
  h.wrote.grew ∙ ap (shown_after (shown_in before)) (same_ok (form_text form (sifted logs).kept) h.sum k.sum h.is.is k.is.is) ∙ sym k.wrote.grew,
)
  where
    same_ok : (r : Result (List ℕ) LogError) (x y : List ℕ) → r ≡ Ok x → r ≡ Ok y → x ≡ y
    same_ok r x y p q = cc (p, q)

-- the input is kept, or overfull
pub record KeptInput (form : SumForm) (all : List ℕ) (before a : SinkSeen) (s : Status) : Type 0 where
  pub short : IsShort all
  pub kept : IsKept form (all ∷ []) before a s

pub record LongInput (all : List ℕ) (before a : SinkSeen) (s : Status) : Type 0 where
  pub bytes : List ℕ
  pub line : ℕ
  pub is : IsOverfull all bytes line
  pub stays : a ≡ before
  pub status : s ≡ statuses.BadText None line TooMuch

abbrev EndedInput : SumForm → List ℕ → SinkSeen → SinkSeen → Status → Type 0
EndedInput form all before a s = (s ≡ statuses.NoMemory) ⊎ (KeptInput form all before a s ⊎ LongInput all before a s)

ended_input : (form : SumForm) (all : List ℕ) (old one : SourceSeen) (before a : SinkSeen) (end : SkipEnd) → old.left ≡ Some all
    → (Failed before a → ⊥) → (Rose old.faults one.faults → ⊥) → InputSkipped form old one before a end
    → EndedInput form all before a (skip_status end)
ended_input form all old one before a (Ok blocks) e none sound h =
    let text : all ≡ h.read.log = text_on old.left all h.read.log e h.read.text in
    inr (inl record {
      short = subst IsShort (sym text) h.read.short;
      kept = record {
        blocks = blocks.items;
        sum = h.sum;
        is = subst (λ (t : List ℕ). IsKeptSum form (t ∷ []) (map skipped_view blocks.items) h.sum) (sym text) h.read.is;
        wrote = h.wrote;
        status = refl;
      };
    })
ended_input form all old one before a (Err sums.OutFault) e none sound h = absurd (none h.1.wrote.fault)
ended_input form all old one before a (Err (sums.TooMuch None line)) e none sound h =
    let text : all ≡ h.0.log = text_on old.left all h.0.log e h.0.text in
    inr (inr record {
      bytes = h.0.bytes;
      line = line;
      is = subst (λ (t : List ℕ). IsOverfull t h.0.bytes line) (sym text) h.0.is;
      stays = h.1;
      status = refl;
    })
ended_input form all old one before a (Err sums.InputFault) e none sound h = absurd (sound h.0.fault)
ended_input form all old one before a (Err sums.NoMemory) e none sound h = inl refl
ended_input form all old one before a (Err sums.Done) e none sound h = absurd h
ended_input form all old one before a (Err (sums.Wrong file line kind)) e none sound h = absurd h
ended_input form all old one before a (Err (sums.TooMuch (Some file) line)) e none sound h = absurd h
ended_input form all old one before a (Err (sums.NoFile word)) e none sound h = absurd h
ended_input form all old one before a (Err sums.ShelfFault) e none sound h = absurd h

inputs_same : (form : SumForm) (all : List ℕ) (before a b : SinkSeen) (s t : Status) → EndedInput form all before a s → EndedInput form all before b t
    → AlikeOut s t a b
inputs_same form all before a b s t (inl h) k = inl h
inputs_same form all before a b s t (inr h) (inl k) = inr (inl k)
inputs_same form all before a b s t (inr (inl h)) (inr (inl k)) = inr (inr (kept_same form (all ∷ []) before a b s t h.kept k.kept))
inputs_same form all before a b s t (inr (inl h)) (inr (inr k)) = absurd (omega (arith, h.short, overfull_long all k.bytes k.line k.is))
inputs_same form all before a b s t (inr (inr h)) (inr (inl k)) = absurd (omega (arith, k.short, overfull_long all h.bytes h.line h.is))
inputs_same form all before a b s t (inr (inr h)) (inr (inr k)) =
    inr (inr (
      h.status ∙ ap (λ (n : ℕ). statuses.BadText None n TooMuch) (overfull_line all h.bytes k.bytes h.line k.line h.is k.is) ∙ sym k.status,
      ap shown_in (h.stays ∙ sym k.stays),
    ))

-- msum7 -skip over the input
pub kept_inputs_alike : (form : SumForm) (all : List ℕ) (old one two : SourceSeen) (before a b : SinkSeen) (end other : SkipEnd) → old.left ≡ Some all
    → (Failed before a → ⊥) → (Failed before b → ⊥) → (Rose old.faults one.faults → ⊥) → (Rose old.faults two.faults → ⊥)
    → InputSkipped form old one before a end → InputSkipped form old two before b other
    → AlikeOut (skip_status end) (skip_status other) a b
kept_inputs_alike form all old one two before a b end other e none nothing sound safe h k =
    inputs_same form all before a b (skip_status end) (skip_status other)
    (ended_input form all old one before a end e none sound h) (ended_input form all old two before b other e nothing safe k)

-- where a call stopped: at the file of a place, after these logs
pub record Spot (files : Files) (words : List (List ℕ)) (first : ℕ) : Type 0 where
  pub before : List (List ℕ)
  pub name : List ℕ
  pub are : AreLogs (Some files) words first before
  pub word : slice_get words (first + length before) ≡ Some name

pub record IsLong (files : Files) (first : ℕ) (before : List (List ℕ)) (name : List ℕ) (s : Status) : Type 0 where
  pub log : List ℕ
  pub there : files name ≡ Some log
  pub bytes : List ℕ
  pub line : ℕ
  pub is : IsOverfull log bytes line
  pub status : s ≡ statuses.BadText (Some (first + length before)) line TooMuch

pub record IsMissing (files : Files) (first : ℕ) (before : List (List ℕ)) (name : List ℕ) (s : Status) : Type 0 where
  pub there : files name ≡ None
  pub status : s ≡ statuses.NoFile (first + length before)

-- why it stopped
abbrev Why : Files → ℕ → List (List ℕ) → List ℕ → Status → Type 0
Why files first before name s = IsLong files first before name s ⊎ IsMissing files first before name s

-- what lies before another call's logs is none of these
none_before : (files : Files) (words : List (List ℕ)) (first : ℕ) (spot : Spot files words first) (s : Status) (others : List (List ℕ))
    → Why files first spot.before spot.name s → length spot.before < length others
    → AreLogs (Some files) words first others → ⊥
none_before files words first spot s others why less also = of_why why
  where
    inside : first + length spot.before < length words
    inside = slice_get_within words (first + length spot.before) spot.name spot.word

    name_is : get_or words (first + length spot.before) [] ≡ spot.name
    name_is = get_or_from_slice_get words (first + length spot.before) spot.name [] spot.word

    there : slice_get others (length spot.before) ≡ Some (get_or others (length spot.before) [])
    there = slice_get-get_or others (length spot.before) [] less

    found : files spot.name ≡ Some (get_or others (length spot.before) [])
    found = ap files (sym name_is)
        ∙ log_at files words first others (length spot.before) (get_or others (length spot.before) []) inside also there

    of_why : Why files first spot.before spot.name s → ⊥
    of_why (inr missing) = none_some (get_or others (length spot.before) []) (sym missing.there ∙ found)
    of_why (inl long) =
        let is : get_or others (length spot.before) [] ≡ long.log =
        same_Some (get_or others (length spot.before) []) long.log (sym found ∙ long.there) in
        let short : length (get_or others (length spot.before) []) ≤ 2 ^ 40 = also.short (length spot.before) [] less in
        omega (arith, short, overfull_long long.log long.bytes long.line long.is, ap length is)

-- the same file after the same logs gives one status
same_why : (files : Files) (first : ℕ) (before : List (List ℕ)) (name : List ℕ) (s t : Status) → Why files first before name s
    → Why files first before name t → s ≡ t
same_why files first before name s t (inl h) (inl k) =
    let log : k.log ≡ h.log = same_Some k.log h.log (sym k.there ∙ h.there) in
    let line : h.line ≡ k.line =
    overfull_line h.log h.bytes k.bytes h.line k.line h.is (subst (λ (z : List ℕ). IsOverfull z k.bytes k.line) log k.is) in
    h.status ∙ ap (λ (n : ℕ). statuses.BadText (Some (first + length before)) n TooMuch) line ∙ sym k.status
same_why files first before name s t (inl h) (inr k) = absurd (none_some h.log (sym k.there ∙ h.there))
same_why files first before name s t (inr h) (inl k) = absurd (none_some k.log (sym h.there ∙ k.there))
same_why files first before name s t (inr h) (inr k) = h.status ∙ sym k.status

-- all logs were read, and what is kept of them is written
pub record KeptFiles (form : SumForm) (files : Files) (words : List (List ℕ)) (first : ℕ) (before a : SinkSeen) (s : Status) : Type 0 where
  pub logs : List (List ℕ)
  pub all : first + length logs ≡ length words
  pub are : AreLogs (Some files) words first logs
  pub kept : IsKept form logs before a s

-- a call stopped, and nothing is written
pub record StoppedFiles (files : Files) (words : List (List ℕ)) (first : ℕ) (before a : SinkSeen) (s : Status) : Type 0 where
  pub spot : Spot files words first
  pub why : Why files first spot.before spot.name s
  pub stays : a ≡ before

abbrev EndedFiles : SumForm → Files → List (List ℕ) → ℕ → SinkSeen → SinkSeen → Status → Type 0
EndedFiles form files words first before a s =
    (s ≡ statuses.NoMemory) ⊎ (KeptFiles form files words first before a s ⊎ StoppedFiles files words first before a s)

abbrev spot_of : (files : Files) (words : List (List ℕ)) (first : ℕ) (before : List (List ℕ)) (name : List ℕ) (place : ℕ)
    (shown : Option Files) → shown ≡ Some files → IsAtWord shown words first place before name → Spot files words first
spot_of files words first before name place shown e at = record {
  before = before;
  name = name;
  are = subst (λ (o : Option Files). AreLogs o words first before) e at.are;
  word = subst (λ (n : ℕ). slice_get words n ≡ Some name) at.count at.word;
}

ended_files : (form : SumForm) (files : Files) (words : List (List ℕ)) (first : ℕ) (old one : ShelfSeen) (before a : SinkSeen) (end : SkipEnd)
    → old.files ≡ Some files → (Failed before a → ⊥) → (Rose old.faults one.faults → ⊥)
    → FilesSkipped form old one words first before a end → EndedFiles form files words first before a (skip_status end)
ended_files form files words first old one before a (Ok blocks) e none sound h =
    inr (inl record {
      logs = h.read.logs;
      all = h.read.all;
      are = subst (λ (o : Option Files). AreLogs o words first h.read.logs) e h.read.are;
      kept = record { blocks = blocks.items; sum = h.sum; is = h.read.is; wrote = h.wrote; status = refl };
    })
ended_files form files words first old one before a (Err sums.OutFault) e none sound h = absurd (none h.1.wrote.fault)
ended_files form files words first old one before a (Err (sums.TooMuch (Some place) line)) e none sound h =
    inr (inr record {
      spot = spot_of files words first h.0.before h.0.name place old.files e h.0.place_is;
      why = inl record {
        log = h.0.log;
        there = file_on old.files files h.0.name h.0.log e h.0.text;
        bytes = h.0.bytes;
        line = line;
        is = h.0.is;
        status = ap (λ (n : ℕ). statuses.BadText (Some n) line TooMuch) h.0.place_is.count;
      };
      stays = h.1;
    })
ended_files form files words first old one before a (Err (sums.NoFile place)) e none sound h =
    inr (inr record {
      spot = spot_of files words first h.0.before h.0.name place old.files e h.0.place_is;
      why = inr record {
        there = subst (λ (o : Option Files). MatchOption o (Rose old.faults one.faults) (λ there. there h.0.name ≡ None)) e h.0.absent;
        status = ap statuses.NoFile h.0.place_is.count;
      };
      stays = h.1;
    })
ended_files form files words first old one before a (Err sums.ShelfFault) e none sound h = absurd (sound h.0.fault)
ended_files form files words first old one before a (Err sums.NoMemory) e none sound h = inl refl
ended_files form files words first old one before a (Err sums.Done) e none sound h = absurd h
ended_files form files words first old one before a (Err (sums.Wrong file line kind)) e none sound h = absurd h
ended_files form files words first old one before a (Err (sums.TooMuch None line)) e none sound h = absurd h
ended_files form files words first old one before a (Err sums.InputFault) e none sound h = absurd h

-- a call that stopped isn't one that read all logs
kept_or_stopped : (form : SumForm) (files : Files) (words : List (List ℕ)) (first : ℕ) (before a b : SinkSeen) (s t : Status)
    → KeptFiles form files words first before a s → StoppedFiles files words first before b t → ⊥
kept_or_stopped form files words first before a b s t h k =
    let inside = slice_get_within words (first + length k.spot.before) k.spot.name k.spot.word in
    none_before files words first k.spot t h.logs k.why (omega (arith, inside, h.all)) h.are

-- two calls stopped at one place
spots_same : (files : Files) (words : List (List ℕ)) (first : ℕ) (p q : Spot files words first) (s t : Status)
    → Why files first p.before p.name s → Why files first q.before q.name t → s ≡ t
spots_same files words first p q s t h k = of_order (order (length p.before) (length q.before))
  where
    of_order : ((length p.before < length q.before) ⊎ ((length p.before ≡ length q.before) ⊎ (length q.before < length p.before))) → s ≡ t
    of_order (inl less) = absurd (none_before files words first p s q.before h less q.are)
    of_order (inr (inr less)) = absurd (none_before files words first q t p.before k less p.are)
    of_order (inr (inl e)) =
        let inside = slice_get_within words (first + length p.before) p.name p.word in
        let logs : p.before ≡ q.before =
        same_list p.before q.before e (agree files words first p.before q.before (omega (arith, inside)) (omega (arith, e)) p.are q.are) in
        let name : p.name ≡ q.name = same_Some p.name q.name (sym p.word ∙ ap (λ (n : ℕ). slice_get words (first + n)) e ∙ q.word) in
        same_why files first q.before q.name s t
        (subst (λ (z : List ℕ). Why files first q.before z s) name (subst (λ (zs : List (List ℕ)). Why files first zs p.name s) logs h)) k

files_same : (form : SumForm) (files : Files) (words : List (List ℕ)) (first : ℕ) (before a b : SinkSeen) (s t : Status)
    → EndedFiles form files words first before a s → EndedFiles form files words first before b t → AlikeOut s t a b
files_same form files words first before a b s t (inl h) k = inl h
files_same form files words first before a b s t (inr h) (inl k) = inr (inl k)
files_same form files words first before a b s t (inr (inl h)) (inr (inl k)) =
    let logs : h.logs ≡ k.logs =
    same_list h.logs k.logs (omega (arith, h.all, k.all))
    (agree files words first h.logs k.logs (omega (arith, h.all)) (omega (arith, h.all, k.all)) h.are k.are) in
    inr (inr (kept_same form k.logs before a b s t (subst (λ (zs : List (List ℕ)). IsKept form zs before a s) logs h.kept) k.kept))
files_same form files words first before a b s t (inr (inl h)) (inr (inr k)) = absurd (kept_or_stopped form files words first before a b s t h k)
files_same form files words first before a b s t (inr (inr h)) (inr (inl k)) = absurd (kept_or_stopped form files words first before b a t s k h)
files_same form files words first before a b s t (inr (inr h)) (inr (inr k)) =
    inr (inr (spots_same files words first h.spot k.spot s t h.why k.why, ap shown_in (h.stays ∙ sym k.stays)))

-- msum7 -skip over files
pub kept_files_alike : (form : SumForm) (files : Files) (words : List (List ℕ)) (first : ℕ) (old one two : ShelfSeen) (before a b : SinkSeen)
    (end other : SkipEnd) → old.files ≡ Some files
    → (Failed before a → ⊥) → (Failed before b → ⊥) → (Rose old.faults one.faults → ⊥) → (Rose old.faults two.faults → ⊥)
    → FilesSkipped form old one words first before a end → FilesSkipped form old two words first before b other
    → AlikeOut (skip_status end) (skip_status other) a b
kept_files_alike form files words first old one two before a b end other e none nothing sound safe h k =
    files_same form files words first before a b (skip_status end) (skip_status other)
    (ended_files form files words first old one before a end e none sound h) (ended_files form files words first old two before b other e nothing safe k)
