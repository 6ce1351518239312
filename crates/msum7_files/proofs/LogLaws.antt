-- A log that was read, summed or refused.
use Rattle.std.proofs.Common.{◌≡◌, ◌≤◌, ◌^◌, ℕ, List, [], ◌∷◌, ◌++◌, length, refl, sym, ap, ◌∙◌, subst, arith, append_assoc, append-nil, inl, inr}
use Rattle.std.specs.{Prelude.{Result, Ok, Err, OnOk, OnErr}, Io.KnownBytes.IsAtEnd}
use Rattle.diy_io.specs.{Count.{count_of, Rose}, Taken.{SourceSeen, NotEnded}, Shelf.{ShelfSeen, Mode, Idle, Stopped, Finished, left_to_read}}
use Rattle.diy_io.specs.declared.errors.Failed.{Failed}
use Rattle.log_sum.specs.{declared.errors.LogError.LogError, Representing.{ShowsNone, logs_text}}
use Rattle.log_sum_laws.proofs.Represented.{represented_text}
use Rattle.msum7_files.specs.{declared.feeding.Feeding.Feeding, declared.feeding.LogFault.LogFault}
use Rattle.msum7_files.specs.{declared.feeding.LogFault.TheVariants.{Wrong, TooMuch, NoMemory}, declared.feeding.ReadFault.ReadFault}
use Rattle.msum7_files.specs.{declared.feeding.ReadFault.TheVariants.{Log, Device}, Logs.{IsShort, EndsAt, AreWholeLogs, PrefixWrong, UpToFault, IsWrongLog}}
use Rattle.msum7_files.specs.FileFeeding.{ReadsLogs, IsFaultOfLogs, IsEndFault, ReadWhole, ReadPart, LogFailed, ReadTo, LogSummed, LogFaulty, IsFaulty, SummedTo}

-- logs that were fed without an error
pub are_right : (feeding : Feeding) (logs : List (List ℕ)) → ReadsLogs feeding logs [] → AreWholeLogs logs
are_right feeding logs reads = record { text = _; is = represented_text feeding.summer logs reads.represents }

-- logs without an error show none
pub right_shows_none : (before : List (List ℕ)) (log : List ℕ) → AreWholeLogs (before ++ log ∷ []) → ShowsNone before log
right_shows_none before log right error shown =
    let whole : logs_text (before ++ (log ++ []) ∷ []) ≡ logs_text (before ++ log ∷ []) = ap (λ l. logs_text (before ++ l ∷ [])) (append-nil log) in
    let wrong : ◌≡◌ {A = Result (List ℕ) LogError} (Err error) (Ok right.text) = sym (shown [] []) ∙ whole ∙ right.is in
    cc

-- an error that the bytes taken of a log show
prefix_wrong : (before : List (List ℕ)) (log bytes : List ℕ) (error : LogError) → AreWholeLogs before → UpToFault before log bytes
    → PrefixWrong before bytes error → IsWrongLog before log bytes error
prefix_wrong before log bytes error right u w =
    let whole : log ≡ w.prefix ++ (w.rest ++ u.rest) = u.parts ∙ ap (λ b. b ++ u.rest) w.parts ∙ append_assoc w.prefix w.rest u.rest in
    record {
      right_before = right;
      wrong = λ more. ap (λ l. logs_text (before ++ l ∷ more)) whole ∙ w.wrong (w.rest ++ u.rest) more;
      up_to = u;
      shown = inr w;
    }

faulty : (before : List (List ℕ)) (log bytes : List ℕ) (fault : LogFault) → AreWholeLogs before → UpToFault before log bytes
    → IsFaultOfLogs before bytes fault → IsFaulty before log bytes fault
faulty before log bytes (Wrong error) right up_to is = prefix_wrong before log bytes error right up_to is
faulty before log bytes (TooMuch line) right up_to is = record { right_before = right; up_to = up_to; full = is }
faulty before log bytes NoMemory right up_to is = tt

-- a log of which a part was read has an error
pub part_faulty : (old new : SourceSeen) (feeding : Feeding) (before : List (List ℕ)) (fault : LogFault) → ReadsLogs feeding before []
    → ReadPart old new before fault → LogFaulty old new before fault × (new.faults ≡ old.faults)
part_faulty old new feeding before fault reads part = (
  record {
    log = part.log;
    text = part.text;
    bytes = part.bytes;
    taken = part.taken;
    ends = inl part.no_end;
    is = faulty before part.log part.bytes fault (are_right feeding before reads) part.up_to part.is;
  },
  part.no_fault,
)

end_wrong : (before : List (List ℕ)) (log : List ℕ) (fault : LogFault) → AreWholeLogs before → IsShort log → ShowsNone before log → IsEndFault before log fault
    → IsFaulty before log log fault
end_wrong before log (Wrong error) right short none is = record {
  right_before = right;
  wrong = is;
  up_to = record {
    rest = [];
    parts = sym (append-nil log);
    earlier = log;
    piece = [];
    pieces = sym (append-nil log);
    short = short;
    no_fault = none;
    one = omega arith;
  };
  shown = inl (refl, short);
}
end_wrong before log (TooMuch line) right short none is = absurd is
end_wrong before log NoMemory right short none is = tt

-- a log that was read whole has an error at its end
pub end_faulty : (old new : SourceSeen) (feeding read : Feeding) (before : List (List ℕ)) (fault : LogFault) → ReadsLogs feeding before []
    → (whole : ReadWhole old new read before) → IsEndFault before whole.log fault → LogFaulty old new before fault × (new.faults ≡ old.faults)
end_faulty old new feeding read before fault reads whole is =
    let count : read.read ≡ length whole.log = whole.reads.read in
    let fits : read.read ≤ 2 ^ 40 = read.in_range in
    let none : ShowsNone before whole.log = whole.reads.represents.no_fault in (
      record {
        log = whole.log;
        text = whole.text;
        bytes = whole.log;
        taken = whole.taken;
        ends = inr (whole.once, refl);
        is = end_wrong before whole.log fault (are_right feeding before reads) (omega arith) none is;
      },
      whole.no_fault,
    )

-- a log is summed
pub whole_summed : (old new : SourceSeen) (read after : Feeding) (before : List (List ℕ)) (whole : ReadWhole old new read before)
    → ReadsLogs after (before ++ whole.log ∷ []) [] → LogSummed old new after before
whole_summed old new read after before whole reads =
    let count : read.read ≡ length whole.log = whole.reads.read in
    let fits : read.read ≤ 2 ^ 40 = read.in_range in
    record {
      log = whole.log;
      text = whole.text;
      at_end = whole.at_end;
      once = whole.once;
      short = omega arith;
      taken = whole.taken;
      reads = reads;
      no_fault = whole.no_fault;
    }

-- a log that was summed is closed
pub closed_summed : (old mid new : SourceSeen) (feeding : Feeding) (before : List (List ℕ)) → LogSummed old mid feeding before
    → IsAtEnd new.left → new.taken ≡ mid.taken → NotEnded mid new → new.faults ≡ mid.faults → LogSummed old new feeding before
closed_summed old mid new feeding before s end same no_end no_fault = record {
  log = s.log;
  text = s.text;
  at_end = end;
  once = no_end ∙ s.once;
  short = s.short;
  taken = ap count_of same ∙ s.taken;
  reads = s.reads;
  no_fault = no_fault ∙ s.no_fault;
}

-- the device failed when a log that was summed was closed
pub closed_failed : (old mid new : SourceSeen) (feeding : Feeding) (before : List (List ℕ)) → LogSummed old mid feeding before
    → new.taken ≡ mid.taken → NotEnded mid new → Rose mid.faults new.faults → mid.faults ≤ new.faults → LogFailed old new feeding before
closed_failed old mid new feeding before s same no_end rose falls =
    let none : mid.faults ≡ old.faults = s.no_fault in
    record {
      failed = record {
        log = s.log;
        text = s.text;
        bytes = s.log;
        rest = [];
        parts = sym (append-nil s.log);
        short = s.short;
        no_fault = right_shows_none before s.log (are_right feeding (before ++ s.log ∷ []) s.reads);
        taken = ap count_of same ∙ s.taken;
        ends = inr (no_end ∙ s.once, refl);
        fault = omega arith;
        never_falls = omega arith;
      };
      fed = inr (refl, s.reads);
    }

pub ends_closed : (old mid new : SourceSeen) (bytes log : List ℕ) → EndsAt old mid bytes log → NotEnded mid new → EndsAt old new bytes log
ends_closed old mid new bytes log (inl none) same = inl (same ∙ none)
ends_closed old mid new bytes log (inr all) same = inr (same ∙ all.0, all.1)

-- a log with an error is closed
pub closed_faulty : (old mid new : SourceSeen) (before : List (List ℕ)) (fault : LogFault) → LogFaulty old mid before fault
    → new.taken ≡ mid.taken → NotEnded mid new → LogFaulty old new before fault
closed_faulty old mid new before fault f same no_end = record {
  log = f.log;
  text = f.text;
  bytes = f.bytes;
  taken = ap count_of same ∙ f.taken;
  ends = ends_closed old mid new f.bytes f.log f.ends no_end;
  is = f.is;
}

-- a file is closed, whatever the answer
pub record Closed (old new : ShelfSeen) : Type 0 where
  pub mode : new.mode ≡ Idle
  pub files : new.files ≡ old.files
  pub taken : new.taken ≡ old.taken
  pub opened : new.opened ≡ old.opened
  pub ends : new.ends ≡ old.ends
  pub never_falls : old.faults ≤ new.faults

-- no file is open, so nothing is left to read
pub idle_at_end : (mode : Mode) → mode ≡ Idle → IsAtEnd (left_to_read mode)
idle_at_end mode idle = subst (λ m. IsAtEnd (left_to_read m)) (sym idle) tt

-- an attempt to close a file closes it, whatever the answer
pub closed : (old new : ShelfSeen) (r : Result (Unit {0}) Failed) → OnOk r (Finished old new) → OnErr r (Stopped old new) → Closed old new
closed old new (Ok x) f s = record { mode = f.mode; files = f.files; taken = f.counts.taken; opened = f.counts.opened; ends = f.counts.ends; never_falls = (let e : new.faults ≡ old.faults = f.no_fault in omega arith) }
closed old new (Err x) f s = record { mode = s.mode; files = s.files; taken = s.counts.taken; opened = s.counts.opened; ends = s.counts.ends; never_falls = s.faulted.never_falls }

-- a log that isn't read to its end isn't summed
pub part_summed : (old new : SourceSeen) (feeding read : Feeding) (before : List (List ℕ)) (fault : ReadFault) → ReadsLogs feeding before []
    → ReadTo old new read before (Err fault) → SummedTo old new read before (Err fault)
part_summed old new feeding read before (Log fault) reads part = part_faulty old new feeding before fault reads part
part_summed old new feeding read before Device reads failed = failed

-- the summing of a log that answers an error of the log
pub summed_refused : (old new : SourceSeen) (feeding : Feeding) (logs : List (List ℕ)) (r : Result (Unit {0}) ReadFault) (fault : LogFault)
    → SummedTo old new feeding logs r → r ≡ Err (Log fault) → LogFaulty old new logs fault × (new.faults ≡ old.faults)
summed_refused old new feeding logs r fault h e = let P : Result (Unit {0}) ReadFault → Type 0 = λ r. SummedTo old new feeding logs r in subst P e h

-- the summing of a log that answers that the device failed
pub summed_failed : (old new : SourceSeen) (feeding : Feeding) (logs : List (List ℕ)) (r : Result (Unit {0}) ReadFault)
    → SummedTo old new feeding logs r → r ≡ Err Device → LogFailed old new feeding logs
summed_failed old new feeding logs r h e = let P : Result (Unit {0}) ReadFault → Type 0 = λ r. SummedTo old new feeding logs r in subst P e h
