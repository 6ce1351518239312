-- Files of a shelf that are read, one after another, and of which the blocks with errors are left out.
use Rattle.std.proofs.Common.{◌≡◌, ◌+◌, ℕ, List, [], ◌∷◌, ◌++◌, length, refl, sym, ap, ◌∙◌, subst, arith, Some, inl, inr, length-append}
use Rattle.std.specs.Prelude.{Option, Err, slice_get}
use Rattle.diy_io.specs.{Count.{next_count, Rose}, Shelf.{Files, ShelfSeen, Opened}, Wrote.SinkSeen}
use Rattle.log_sum.specs.Skipping.{Skipped}
use Rattle.msum7_files.specs.{declared.sum_form.SumForm.SumForm, declared.sifting.Sifting.Sifting, declared.feeding.LogFault.LogFault}
use Rattle.msum7_files.specs.{declared.feeding.LogFault.TheVariants.{Wrong, TooMuch, NoMemory}, declared.feeding.ReadFault.ReadFault}
use Rattle.msum7_files.specs.{declared.feeding.ReadFault.TheVariants.{Log, Device}, declared.files.FileFault.FileFault}
use Rattle.msum7_files.specs.{declared.files.FileFault.TheVariants.{Missing, Read}, SumEnds.{IsAtWord, FileStopped}, LogFiles.{log_seen, log_file_end}}
use Rattle.msum7_files.specs.SkipEnds.{IsTaken, FilesKeptSaid, FilesSkipped}
use Rattle.msum7_files.specs.SkipReading.{LogSifted, SiftClosedTo, IsOverLog, KeptSaid, FileSifted, FileOver, FileSiftedTo, SiftedSoFar}
use Rattle.diy_io.proofs.{FileNameLaws.{absent_before, quiet_before, file_before}, OpenedLaws.{opened_text, opened_took, took_one_more, took_no_more}, EndLaws.{ends_both, one_end}}
use Rattle.msum7_files.proofs.FilesLaws.{opened_ends, failed_ends, more_logs}

-- a file that was opened is read
pub opened_sifted : (old mid new : ShelfSeen) (sifting : Sifting) (before : List (List ℕ)) (name : List ℕ) → Opened old mid name
    → LogSifted (log_seen mid) (log_seen new) sifting before → new.opened ≡ mid.opened → FileSifted old new sifting before name
opened_sifted old mid new sifting before name opened s same = record {
  log = s.log;
  text = opened_text old mid name s.log opened s.text;
  short = s.short;
  reads = s.reads;
  no_fault = s.no_fault ∙ opened.no_fault;
  took = opened_took old mid new name s.log opened s.taken same;
  ends = one_end old new (s.once ∙ ap (λ n. next_count n) opened.ends);
}

-- a file that was opened isn't read to its end
pub opened_refused : (old mid new : ShelfSeen) (sifting : Sifting) (before : List (List ℕ)) (name : List ℕ) (fault : ReadFault) → Opened old mid name
    → SiftClosedTo (log_seen mid) (log_seen new) sifting before (Err fault) → new.opened ≡ mid.opened → new.faults_at_open ≡ mid.faults_at_open
    → FileSiftedTo old new sifting before name (Err (Read fault))
opened_refused old mid new sifting before name (Log fault) opened s same at_open = record {
  log = s.log;
  text = opened_text old mid name s.log opened s.text;
  bytes = s.bytes;
  is = s.is;
  took = opened_took old mid new name s.bytes opened s.taken same;
  ends = opened_ends old mid new name s.bytes s.log opened s.ends;
  at_open = at_open ∙ opened.at_open;
}
opened_refused old mid new sifting before name Device opened s same at_open =
    let none : mid.faults ≡ old.faults = opened.no_fault in
    let rose : Rose mid.faults new.faults = s.fault in
    record {
      fault = omega arith;
      took =
          inr (
            s.bytes,
            record {
              log = s.log;
              text = opened_text old mid name s.log opened s.text;
              rest = s.rest;
              parts = s.parts;
              short = s.short;
            },
            opened_took old mid new name s.bytes opened s.taken same,
          );
      ends = failed_ends old mid new name s.bytes s.log opened s.ends;
    }

-- one file more is read
pub one_more : (old mid new : ShelfSeen) (sifting after : Sifting) (words : List (List ℕ)) (first place : ℕ) (name : List ℕ) (s : SiftedSoFar old mid sifting words first place)
    → mid.files ≡ old.files → slice_get words place ≡ Some name → FileSifted mid new after s.logs name → SiftedSoFar old new after words first (place + 1)
one_more old mid new sifting after words first place name s files word f =
    let count : place ≡ first + length s.logs = s.count in
    record {
      logs = s.logs ++ f.log ∷ [];
      count = omega (arith, length-append s.logs (f.log ∷ []));
      are = more_logs old.files words first place s.logs name f.log s.are s.count word (file_before old mid name f.log files f.text) f.short;
      reads = f.reads;
      no_fault = f.no_fault ∙ s.no_fault;
      took = took_one_more old mid new s.logs f.log s.took f.took;
      ends = ends_both old mid new (length s.logs) 1 (length (s.logs ++ f.log ∷ [])) s.ends f.ends (length-append s.logs (f.log ∷ []));
    }

at_word : (old mid : ShelfSeen) (sifting : Sifting) (words : List (List ℕ)) (first place : ℕ) (name : List ℕ) (s : SiftedSoFar old mid sifting words first place)
    → slice_get words place ≡ Some name → IsAtWord old.files words first place s.logs name
at_word old mid sifting words first place name s word = record { count = s.count; are = s.are; word = word }

-- the files end at one of which no more is taken
files_stopped : (old mid new : ShelfSeen) (sifting : Sifting) (words : List (List ℕ)) (first place : ℕ) (name : List ℕ) (fault : LogFault)
    → (s : SiftedSoFar old mid sifting words first place) → mid.files ≡ old.files → slice_get words place ≡ Some name
    → FileOver mid new name fault → FileStopped old new words first place (λ before log bytes. IsOverLog log bytes fault)
files_stopped old mid new sifting words first place name fault s files word f = record {
  before = s.logs;
  name = name;
  place_is = at_word old mid sifting words first place name s word;
  log = f.log;
  text = file_before old mid name f.log files f.text;
  bytes = f.bytes;
  is = f.is;
  took = took_one_more old mid new s.logs f.bytes s.took f.took;
  ends = elim f.ends [
    | inl none ↦ inl (ends_both old mid new (length s.logs) 0 (length s.logs) s.ends none (omega arith))
    | inr all ↦ inr (ends_both old mid new (length s.logs) 1 (length s.logs + 1) s.ends all.0 refl, all.1)
  ];
  at_open = f.at_open ∙ s.no_fault;
}

taken_same : (old mid : Option Files) (name bytes : List ℕ) → mid ≡ old → IsTaken mid name bytes → IsTaken old name bytes
taken_same old mid name bytes files b = subst (λ o. IsTaken o name bytes) files b

-- a file isn't read to its end
pub files_refused : (form : SumForm) (old mid new : ShelfSeen) (a : SinkSeen) (sifting after : Sifting) (words : List (List ℕ)) (first place : ℕ) (name : List ℕ) (fault : FileFault)
    → (s : SiftedSoFar old mid sifting words first place) → mid.files ≡ old.files → slice_get words place ≡ Some name
    → FileSiftedTo mid new after s.logs name (Err fault) → FilesSkipped form old new words first a a (Err (log_file_end place fault))
files_refused form old mid new a sifting after words first place name Missing s files word f = (
  record {
    before = s.logs;
    name = name;
    place_is = at_word old mid sifting words first place name s word;
    absent = absent_before old mid new name files s.no_fault f.absent;
    no_fault = quiet_before old mid new files s.no_fault f.no_fault;
    took = took_no_more old mid new s.logs s.took f.took;
    ends = ends_both old mid new (length s.logs) 0 (length s.logs) s.ends f.ends (omega arith);
  },
  refl,
)
files_refused form old mid new a sifting after words first place name (Read Device) s files word f = (
  record {
    fault = subst (λ m. Rose m new.faults) s.no_fault f.fault;
    place = place;
    before = s.logs;
    name = name;
    place_is = at_word old mid sifting words first place name s word;
    took = elim f.took [
      | inl none ↦ inl (took_no_more old mid new s.logs s.took none)
      | inr some ↦ inr (some.0, taken_same old.files mid.files name some.0 files some.1, took_one_more old mid new s.logs some.0 s.took some.2)
    ];
    ends = elim f.ends [
      | inl none ↦ inl (ends_both old mid new (length s.logs) 0 (length s.logs) s.ends none (omega arith))
      | inr one ↦ inr (ends_both old mid new (length s.logs) 1 (length s.logs + 1) s.ends one refl)
    ];
  },
  refl,
)
files_refused form old mid new a sifting after words first place name (Read (Log (Wrong error))) s files word f = absurd f.is
files_refused form old mid new a sifting after words first place name (Read (Log (TooMuch line))) s files word f =
    (files_stopped old mid new sifting words first place name (TooMuch line) s files word f, refl)
files_refused form old mid new a sifting after words first place name (Read (Log NoMemory)) s files word f = refl

-- this was done with the sum of what is kept of the files
pub files_kept : (form : SumForm) (old new : ShelfSeen) (blocks : List Skipped) (done : List ℕ → Type 0) (sifting : Sifting) (words : List (List ℕ)) (first place : ℕ)
    → (s : SiftedSoFar old new sifting words first place) → place ≡ length words → KeptSaid form s.logs blocks done → FilesKeptSaid form old new words first blocks done
files_kept form old new blocks done sifting words first place s all k = record {
  sum = k.sum;
  read = record { logs = s.logs; all = sym s.count ∙ all; are = s.are; no_fault = s.no_fault; took = s.took; ends = s.ends; is = k.is };
  wrote = k.wrote;
}
