-- Files of a shelf that are summed, one after another.
use Rattle.std.proofs.Common.{◌≡◌, ◌+◌, ℕ, List, [], ◌∷◌, ◌++◌, length, refl, sym, ap, ◌∙◌, subst, arith, Some, None, inl, inr, length-append, get_or}
use Rattle.std.proofs.lemmas.List.Elements.{All-append}
use Rattle.std.specs.Prelude.{◌⊎◌, Option, Ok, Err, All, slice_get, zero, suc}
use Rattle.diy_io.specs.{Count.{next_count, Rose}, Shelf.{Files, ShelfSeen, Opened}, Wrote.SinkSeen, Opened.{IsFile, EndsSeen, EndsSeenOrOneMore}}
use Rattle.msum7_files.specs.{declared.sum_form.SumForm.SumForm, SumForms.{form_text}}
use Rattle.msum7_files.specs.{declared.feeding.Feeding.Feeding, declared.feeding.LogFault.LogFault}
use Rattle.msum7_files.specs.{declared.feeding.LogFault.TheVariants.{Wrong, TooMuch, NoMemory}, declared.feeding.ReadFault.ReadFault}
use Rattle.msum7_files.specs.{declared.feeding.ReadFault.TheVariants.{Log, Device}, declared.files.FileFault.FileFault}
use Rattle.msum7_files.specs.{declared.files.FileFault.TheVariants.{Missing, Read}, Logs.{IsShort, EndsAt}, FileFeeding.{IsFaulty, LogSummed, ClosedTo}}
use Rattle.msum7_files.specs.SumEnds.{AreLogs, IsBegun, IsAtWord, FileStopped, LogFilesSaid, FilesSummed}
use Rattle.msum7_files.specs.LogFiles.{log_seen, FileSummed, LogFileFaulty, LogFileTo, FilesSoFar, log_file_end}
use Rattle.diy_io.proofs.{FileNameLaws.{absent_before, quiet_before, file_before}, OpenedLaws.{opened_text, opened_took, took_one_more, took_no_more}, EndLaws.{ends_both, no_ends, one_end}}
use Rattle.msum7_files.proofs.LogLaws.{are_right}

-- a file that was opened is summed
pub opened_summed : (old mid new : ShelfSeen) (feeding : Feeding) (before : List (List ℕ)) (name : List ℕ) → Opened old mid name
    → LogSummed (log_seen mid) (log_seen new) feeding before → new.opened ≡ mid.opened → FileSummed old new feeding before name
opened_summed old mid new feeding before name opened s same = record {
  log = s.log;
  text = opened_text old mid name s.log opened s.text;
  short = s.short;
  reads = s.reads;
  no_fault = s.no_fault ∙ opened.no_fault;
  took = opened_took old mid new name s.log opened s.taken same;
  ends = one_end old new (s.once ∙ ap (λ n. next_count n) opened.ends);
}

pub opened_ends : (old mid new : ShelfSeen) (name bytes log : List ℕ) → Opened old mid name → EndsAt (log_seen mid) (log_seen new) bytes log
    → EndsSeen old new 0 ⊎ (EndsSeen old new 1 × (bytes ≡ log))
opened_ends old mid new name bytes log opened (inl none) = inl (no_ends old new (none ∙ opened.ends))
opened_ends old mid new name bytes log opened (inr all) = inr (one_end old new (all.0 ∙ ap (λ n. next_count n) opened.ends), all.1)

pub failed_ends : (old mid new : ShelfSeen) (name bytes log : List ℕ) → Opened old mid name → EndsAt (log_seen mid) (log_seen new) bytes log → EndsSeenOrOneMore old new 0
failed_ends old mid new name bytes log opened (inl none) = inl (no_ends old new (none ∙ opened.ends))
failed_ends old mid new name bytes log opened (inr all) = inr (one_end old new (all.0 ∙ ap (λ n. next_count n) opened.ends))

-- a file that was opened isn't summed
pub opened_refused : (old mid new : ShelfSeen) (feeding : Feeding) (before : List (List ℕ)) (name : List ℕ) (fault : ReadFault) → Opened old mid name
    → ClosedTo (log_seen mid) (log_seen new) feeding before (Err fault) → new.opened ≡ mid.opened → new.faults_at_open ≡ mid.faults_at_open
    → LogFileTo old new feeding before name (Err (Read fault))
opened_refused old mid new feeding before name (Log fault) opened s same at_open = record {
  log = s.log;
  text = opened_text old mid name s.log opened s.text;
  bytes = s.bytes;
  is = s.is;
  took = opened_took old mid new name s.bytes opened s.taken same;
  ends = opened_ends old mid new name s.bytes s.log opened s.ends;
  at_open = at_open ∙ opened.at_open;
}
opened_refused old mid new feeding before name Device opened s same at_open =
    let none : mid.faults ≡ old.faults = opened.no_fault in
    let rose : Rose mid.faults new.faults = s.failed.fault in
    record {
      fault = omega arith;
      took =
          inr (
            s.failed.bytes,
            record {
              log = s.failed.log;
              text = opened_text old mid name s.failed.log opened s.failed.text;
              rest = s.failed.rest;
              parts = s.failed.parts;
              short = s.failed.short;
              no_fault = s.failed.no_fault;
            },
            opened_took old mid new name s.failed.bytes opened s.failed.taken same,
          );
      ends = failed_ends old mid new name s.failed.bytes s.failed.log opened s.failed.ends;
    }

last_log : (logs : List (List ℕ)) (log other : List ℕ) (k : ℕ) → slice_get (logs ++ log ∷ []) k ≡ Some other
    → (P : ℕ → List ℕ → Type 0) → ((x : List ℕ) → slice_get logs k ≡ Some x → P k x) → P (length logs) log → P k other
last_log [] log other zero e P prefix last = let same : log ≡ other = cc in subst (P 0) same last
last_log [] log other (suc k) e P prefix last = absurd (let h : Some other ≡ None = sym e in cc)
last_log (first ∷ logs) log other zero e P prefix last = prefix other e
last_log (first ∷ logs) log other (suc k) e P prefix last = last_log logs log other k e (λ n. P (suc n)) prefix last

same_name : (words : List (List ℕ)) (i j : ℕ) (a b : List ℕ) → i ≡ j → slice_get words i ≡ Some a → slice_get words j ≡ Some b → a ≡ b
same_name words i j a b e p q = let r : Some a ≡ Some b = sym p ∙ ap (slice_get words) e ∙ q in cc

one_short : (log : List ℕ) → IsShort log → All IsShort (log ∷ [])
one_short log short k d h = let z : k ≡ 0 = omega arith in subst (λ i. IsShort (get_or (log ∷ []) i d)) (sym z) short

-- one log more is named
pub more_logs : (files : Option Files) (words : List (List ℕ)) (first place : ℕ) (logs : List (List ℕ)) (name log : List ℕ) → AreLogs files words first logs
    → place ≡ first + length logs → slice_get words place ≡ Some name → IsFile files name log → IsShort log → AreLogs files words first (logs ++ log ∷ [])
more_logs files words first place logs name log are count word text short = record {
  named = λ k n l w g.
      let P : ℕ → List ℕ → Type 0 = λ i x. slice_get words (first + i) ≡ Some n → IsFile files n x in
      last_log logs log l k g P (λ x h v. are.named k n x v h)
      (λ v. let same : name ≡ n = same_name words place (first + length logs) name n count word v in subst (λ m. IsFile files m log) same text) w;
  short = All-append IsShort logs (log ∷ []) are.short (one_short log short);
}

-- one file more is summed
pub one_more : (old mid new : ShelfSeen) (feeding after : Feeding) (words : List (List ℕ)) (first place : ℕ) (name : List ℕ) (s : FilesSoFar old mid feeding words first place)
    → mid.files ≡ old.files → slice_get words place ≡ Some name → FileSummed mid new after s.logs name → FilesSoFar old new after words first (place + 1)
one_more old mid new feeding after words first place name s files word f =
    let count : place ≡ first + length s.logs = s.count in
    record {
      logs = s.logs ++ f.log ∷ [];
      count = omega (arith, length-append s.logs (f.log ∷ []));
      are = more_logs old.files words first place s.logs name f.log s.are s.count word (file_before old mid name f.log files f.text) f.short;
      reads = f.reads;
      no_fault = f.no_fault ∙ s.no_fault;
      took = took_one_more old mid new s.logs f.log s.took f.took;
      ends = ends_both old mid new (length s.logs) 1 (length (s.logs ++ f.log ∷ [])) s.ends f.ends (length-append s.logs (f.log ∷ []));
    }

at_word : (old mid : ShelfSeen) (feeding : Feeding) (words : List (List ℕ)) (first place : ℕ) (name : List ℕ) (s : FilesSoFar old mid feeding words first place)
    → slice_get words place ≡ Some name → IsAtWord old.files words first place s.logs name
at_word old mid feeding words first place name s word = record { count = s.count; are = s.are; word = word }

begun_same : (old mid : Option Files) (before : List (List ℕ)) (name bytes : List ℕ) → mid ≡ old → IsBegun mid before name bytes → IsBegun old before name bytes
begun_same old mid before name bytes files b = subst (λ o. IsBegun o before name bytes) files b

-- the files end at an error of a log
files_stopped : (old mid new : ShelfSeen) (feeding : Feeding) (words : List (List ℕ)) (first place : ℕ) (name : List ℕ) (fault : LogFault)
    → (s : FilesSoFar old mid feeding words first place) → mid.files ≡ old.files → slice_get words place ≡ Some name
    → LogFileFaulty mid new s.logs name fault → FileStopped old new words first place (λ before log bytes. IsFaulty before log bytes fault)
files_stopped old mid new feeding words first place name fault s files word f = record {
  before = s.logs;
  name = name;
  place_is = at_word old mid feeding words first place name s word;
  log = f.log;
  text = file_before old mid name f.log files f.text;
  bytes = f.bytes;
  is = f.is;
  took = took_one_more old mid new s.logs f.bytes s.took f.took;
  ends = elim f.ends [
    | inl none ↦ inl (ends_both old mid new (length s.logs) 0 (length s.logs) s.ends none (omega arith))
    | inr all ↦ inr (ends_both old mid new (length s.logs) 1 (length s.logs + 1) s.ends all.0 refl, all.1)
  ];
  at_open = f.at_open ∙ s.no_fault;
}

-- a file isn't summed
pub files_refused : (form : SumForm) (old mid new : ShelfSeen) (a : SinkSeen) (feeding after : Feeding) (words : List (List ℕ)) (first place : ℕ) (name : List ℕ) (fault : FileFault)
    → (s : FilesSoFar old mid feeding words first place) → mid.files ≡ old.files → slice_get words place ≡ Some name
    → LogFileTo mid new after s.logs name (Err fault) → FilesSummed form old new words first a a (log_file_end place fault)
files_refused form old mid new a feeding after words first place name Missing s files word f = (
  record {
    before = s.logs;
    name = name;
    place_is = at_word old mid feeding words first place name s word;
    right_before = are_right feeding s.logs s.reads;
    absent = absent_before old mid new name files s.no_fault f.absent;
    no_fault = quiet_before old mid new files s.no_fault f.no_fault;
    took = took_no_more old mid new s.logs s.took f.took;
    ends = ends_both old mid new (length s.logs) 0 (length s.logs) s.ends f.ends (omega arith);
  },
  refl,
)
files_refused form old mid new a feeding after words first place name (Read Device) s files word f = (
  record {
    fault = subst (λ m. Rose m new.faults) s.no_fault f.fault;
    place = place;
    before = s.logs;
    name = name;
    place_is = at_word old mid feeding words first place name s word;
    right_before = are_right feeding s.logs s.reads;
    took = elim f.took [
      | inl none ↦ inl (took_no_more old mid new s.logs s.took none)
      | inr some ↦ inr (some.0, begun_same old.files mid.files s.logs name some.0 files some.1, took_one_more old mid new s.logs some.0 s.took some.2)
    ];
    ends = elim f.ends [
      | inl none ↦ inl (ends_both old mid new (length s.logs) 0 (length s.logs) s.ends none (omega arith))
      | inr one ↦ inr (ends_both old mid new (length s.logs) 1 (length s.logs + 1) s.ends one refl)
    ];
  },
  refl,
)
files_refused form old mid new a feeding after words first place name (Read (Log (Wrong error))) s files word f =
    (files_stopped old mid new feeding words first place name (Wrong error) s files word f, refl)
files_refused form old mid new a feeding after words first place name (Read (Log (TooMuch line))) s files word f =
    (files_stopped old mid new feeding words first place name (TooMuch line) s files word f, refl)
files_refused form old mid new a feeding after words first place name (Read (Log NoMemory)) s files word f = refl

-- this was done with the sum of the files
pub files_said : (form : SumForm) (old new : ShelfSeen) (done : List ℕ → Type 0) (feeding : Feeding) (words : List (List ℕ)) (first place : ℕ)
    → (s : FilesSoFar old new feeding words first place) → place ≡ length words → (sum : List ℕ) → form_text form s.logs ≡ Ok sum → done sum → LogFilesSaid form old new words first done
files_said form old new done feeding words first place s all sum is wrote = record {
  sum = sum;
  read = record { logs = s.logs; all = sym s.count ∙ all; are = s.are; no_fault = s.no_fault; took = s.took; ends = s.ends; is = is };
  wrote = wrote;
}
