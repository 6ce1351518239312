-- Logs that are read and of which the blocks with errors are left out: pieces that are fed, and a device that is read.
use Rattle.std.proofs.Common.{◌≡◌, ◌≤◌, ◌<◌, ◌^◌, ℕ, ◌+◌, List, [], ◌∷◌, ◌++◌, length, take, drop, refl, sym, ap, ◌∙◌, subst, arith, length-append, length-drop, append-nil, inl, inr, None}
use Rattle.std.proofs.{lemmas.List.length-take-le, lemmas.List.Sums.count_by-le-length}
use Rattle.std.proofs.KnownBytes.{Consumes-nil, Consumes-trans, Consumes-whole}
use Rattle.std.specs.{Prelude.{Result, Err, ◌==◌}, Io.KnownBytes.{Consumes, IsAtEnd}}
use Rattle.diy_io.specs.{Count.{count_of, next_count, ends_after, Rose}, Taken.{SourceSeen, Took, EndedOnce, NotEnded}, Shelf.ShelfSeen, Shelf.Gave, Wrote.SinkSeen}
use Rattle.log_sum.specs.{Sieving.{KeptPieces}, Representing.running_line, Skipping.Skipped}
use Rattle.msum7_files.specs.{declared.sifting.Sifting.Sifting, declared.feeding.LogFault.LogFault, declared.sum_form.SumForm.SumForm}
use Rattle.msum7_files.specs.{declared.feeding.LogFault.TheVariants.{Wrong, TooMuch, NoMemory}, declared.feeding.ReadFault.ReadFault}
use Rattle.msum7_files.specs.{declared.feeding.ReadFault.TheVariants.{Log, Device}, Logs.{IsShort, max_piece, TookCount}, LogFiles.log_seen}
use Rattle.msum7_files.specs.{FileFaults.sum_end_at, SkipEnds.{TakingFailed, InputKeptSaid, InputSkipped}}
use Rattle.msum7_files.specs.SkipReading.{SiftsLogs, IsPastFull, IsOver, SiftSoFar, SiftWhole, IsOverLog, LogOver, SiftReadTo, LogSifted, SiftedTo, KeptSaid}
use Rattle.diy_io.proofs.{ConsumedLaws.prefix_of, EndLaws.{end_counted}}
use Rattle.msum7_files.proofs.{FeedingLaws.{parts_of, took_of, took_both, take_none}, LogLaws.ends_closed, FileLaws.gave_took}

-- a piece that goes past the first 2^40 bytes
pub piece_over : (kept : KeptPieces) (logs : List (List ℕ)) (bytes piece : List ℕ) (n line : ℕ)
    → length bytes + n ≡ 2 ^ 40 → n < length piece → line ≡ running_line (bytes ++ take n piece) → IsPastFull (bytes ++ piece) line
piece_over kept logs bytes piece n line full less number =
    let whole : length (bytes ++ take n piece) ≡ 2 ^ 40 = omega (arith, length-append bytes (take n piece), length-take-le n piece (omega arith)) in
    record {
      prefix = bytes ++ take n piece;
      more = drop n piece;
      cut = parts_of bytes piece n;
      full = whole;
      some = omega (arith, length-drop n piece);
      number = omega (arith, number, whole, count_by-le-length (λ byte. byte == 10) (bytes ++ take n piece));
    }

-- nothing has been read
pub reads_nothing : (old : SourceSeen) (sifting : Sifting) (logs : List (List ℕ)) → SiftsLogs sifting logs [] → SiftSoFar old old sifting logs
reads_nothing old sifting logs reads = record {
  bytes = [];
  consumed = Consumes-nil old.left;
  taken = omega arith;
  no_end = refl;
  reads = reads;
  no_fault = refl;
}

-- more was read and fed
pub reads_more : (old mid new : SourceSeen) (sifting after : Sifting) (logs : List (List ℕ)) (piece : List ℕ) (r : SiftSoFar old mid sifting logs)
    → Took mid new piece → NotEnded mid new → new.faults ≡ mid.faults → SiftsLogs after logs (r.bytes ++ piece) → SiftSoFar old new after logs
reads_more old mid new sifting after logs piece r took no_end same reads = record {
  bytes = r.bytes ++ piece;
  consumed = Consumes-trans old.left mid.left new.left r.bytes piece r.consumed took.consumed;
  taken = subst (TookCount old new) (sym (length-append r.bytes piece)) (took_both old mid new (length r.bytes) piece r.taken took);
  no_end = no_end ∙ r.no_end;
  reads = reads;
  no_fault = same ∙ r.no_fault;
}

-- the whole log was read
pub reads_whole : (old mid new : SourceSeen) (sifting : Sifting) (logs : List (List ℕ)) (piece : List ℕ) → SiftSoFar old mid sifting logs
    → Took mid new piece → piece ≡ [] → IsAtEnd new.left → EndedOnce mid new → new.faults ≡ mid.faults → SiftWhole old new sifting logs
reads_whole old mid new sifting logs piece r took none end once same =
    let all : r.bytes ++ piece ≡ r.bytes = ap (λ p. r.bytes ++ p) none ∙ append-nil r.bytes in
    let consumed : Consumes old.left new.left r.bytes =
    subst (Consumes old.left new.left) all (Consumes-trans old.left mid.left new.left r.bytes piece r.consumed took.consumed) in
    let both : TookCount old new (length r.bytes + length piece) = took_both old mid new (length r.bytes) piece r.taken took in
    let short : length piece ≡ 0 = ap length none in
    record {
      log = r.bytes;
      text = Consumes-whole old.left new.left r.bytes (λ whole. whole ≡ r.bytes) consumed end refl;
      at_end = end;
      once = once ∙ ap (λ n. next_count n) r.no_end;
      taken = omega arith;
      reads = r.reads;
      no_fault = same ∙ r.no_fault;
    }

reads_short : (sifting : Sifting) (logs : List (List ℕ)) (bytes : List ℕ) → SiftsLogs sifting logs bytes → sifting.read ≤ 2 ^ 40 → IsShort bytes
reads_short sifting logs bytes reads short = let read : sifting.read ≡ length bytes = reads.read in omega arith

over_log : (bytes piece rest log : List ℕ) (fault : LogFault) → log ≡ (bytes ++ piece) ++ rest → IsShort bytes → length piece ≤ max_piece → IsOver (bytes ++ piece) fault
    → IsOverLog log (bytes ++ piece) fault
over_log bytes piece rest log (Wrong error) e short one is = absurd is
over_log bytes piece rest log (TooMuch line) e short one is = record {
  rest = rest;
  parts = e;
  prefix = is.prefix;
  more = is.more;
  cut = is.cut;
  full = is.full;
  some = is.some;
  one = omega (arith, ap length is.cut, (length-append is.prefix is.more), (length-append bytes piece), is.full);
  number = is.number;
}
over_log bytes piece rest log NoMemory e short one is = tt

-- no more is fed
pub reads_over : (old mid new : SourceSeen) (sifting : Sifting) (logs : List (List ℕ)) (piece : List ℕ) (fault : LogFault) (r : SiftSoFar old mid sifting logs)
    → sifting.read ≤ 2 ^ 40 → length piece ≤ max_piece
    → Took mid new piece → NotEnded mid new → new.faults ≡ mid.faults → IsOver (r.bytes ++ piece) fault → LogOver old new fault × (new.faults ≡ old.faults)
reads_over old mid new sifting logs piece fault r short one took no_end same is =
    let prefix = prefix_of old.left new.left (r.bytes ++ piece) (Consumes-trans old.left mid.left new.left r.bytes piece r.consumed took.consumed) in (
      record {
        log = prefix.text;
        text = prefix.is;
        bytes = r.bytes ++ piece;
        taken = subst (TookCount old new) (sym (length-append r.bytes piece)) (took_both old mid new (length r.bytes) piece r.taken took);
        ends = inl (no_end ∙ r.no_end);
        is = over_log r.bytes piece prefix.rest prefix.text fault prefix.parts (reads_short sifting logs r.bytes r.reads short) one is;
      },
      same ∙ r.no_fault,
    )

-- the device failed
pub reads_failed : (old mid new : SourceSeen) (sifting : Sifting) (logs : List (List ℕ)) → SiftSoFar old mid sifting logs → sifting.read ≤ 2 ^ 40
    → new.taken ≡ mid.taken → NotEnded mid new → Rose mid.faults new.faults → mid.faults ≤ new.faults → TakingFailed old new
reads_failed old mid new sifting logs r short taken no_end fault never_falls =
    let same : mid.faults ≡ old.faults = r.no_fault in
    let prefix = prefix_of old.left mid.left r.bytes r.consumed in
    record {
      log = prefix.text;
      text = prefix.is;
      bytes = r.bytes;
      rest = prefix.rest;
      parts = prefix.parts;
      short = reads_short sifting logs r.bytes r.reads short;
      taken = ap count_of taken ∙ r.taken;
      ends = inl (no_end ∙ r.no_end);
      fault = omega arith;
      never_falls = omega arith;
    }

-- a read that gives nothing
pub read_end : (old mid new : SourceSeen) (sifting : Sifting) (logs : List (List ℕ)) (buf : List ℕ) (n : ℕ) → SiftSoFar old mid sifting logs
    → n ≤ length buf → Consumes mid.left new.left (take n buf) → IsAtEnd new.left → n ≡ 0
    → new.ends ≡ ends_after mid.ends (length buf) n → 0 < length buf → new.taken ≡ count_of (mid.taken + n) → new.faults ≡ mid.faults → SiftWhole old new sifting logs
read_end old mid new sifting logs buf n r h consumed end zero ends room counted same =
    reads_whole old mid new sifting logs (take n buf) r (took_of mid new buf n h consumed counted) (take_none buf n zero) end
    (ends ∙ end_counted mid.ends (length buf) n zero room) same

pub gave_whole : (old : SourceSeen) (mid new : ShelfSeen) (sifting : Sifting) (logs : List (List ℕ)) (buf : List ℕ) (n : ℕ)
    → SiftSoFar old (log_seen mid) sifting logs → n ≤ length buf → Gave mid new (take n buf) (length buf) → n ≡ 0 → 0 < length buf
    → SiftWhole old (log_seen new) sifting logs
gave_whole old mid new sifting logs buf n r h gave zero some =
    let none : take n buf ≡ [] = ap (λ k. take k buf) zero in
    reads_whole old (log_seen mid) (log_seen new) sifting logs (take n buf) r (gave_took mid new (take n buf) (length buf) gave) none
    (gave.end (ap length none) some) (gave.ends ∙ end_counted mid.ends (length buf) (length (take n buf)) (ap length none) some) gave.no_fault

-- ===== a log
-- a log that was read whole can't be ended without memory
pub end_over : (old new : SourceSeen) (sifting : Sifting) (before : List (List ℕ)) (fault : LogFault) → SiftWhole old new sifting before → fault ≡ NoMemory
    → LogOver old new fault × (new.faults ≡ old.faults)
end_over old new sifting before (Wrong error) whole e = absurd (cc)
end_over old new sifting before (TooMuch line) whole e = absurd (cc)
end_over old new sifting before NoMemory whole e =
    (record { log = whole.log; text = whole.text; bytes = whole.log; taken = whole.taken; ends = inr (whole.once, refl); is = tt }, whole.no_fault)

-- a log is read to its end
pub whole_sifted : (old new : SourceSeen) (read after : Sifting) (before : List (List ℕ)) (whole : SiftWhole old new read before)
    → SiftsLogs after (before ++ whole.log ∷ []) [] → LogSifted old new after before
whole_sifted old new read after before whole reads =
    let count : read.read ≡ length whole.log = whole.reads.read in
    let fits : read.read ≤ 2 ^ 40 = read.in_range in
    record {
      log = whole.log;
      text = whole.text;
      at_end = whole.at_end;
      once = whole.once;
      short = omega arith;
      taken = whole.taken;
      reads = reads;
      no_fault = whole.no_fault;
    }

-- a log that was read is closed
pub closed_sifted : (old mid new : SourceSeen) (sifting : Sifting) (before : List (List ℕ)) → LogSifted old mid sifting before
    → IsAtEnd new.left → new.taken ≡ mid.taken → NotEnded mid new → new.faults ≡ mid.faults → LogSifted old new sifting before
closed_sifted old mid new sifting before s end same no_end no_fault = record {
  log = s.log;
  text = s.text;
  at_end = end;
  once = no_end ∙ s.once;
  short = s.short;
  taken = ap count_of same ∙ s.taken;
  reads = s.reads;
  no_fault = no_fault ∙ s.no_fault;
}

-- the device failed when a log that was read was closed
pub closed_failed : (old mid new : SourceSeen) (sifting : Sifting) (before : List (List ℕ)) → LogSifted old mid sifting before
    → new.taken ≡ mid.taken → NotEnded mid new → Rose mid.faults new.faults → mid.faults ≤ new.faults → TakingFailed old new
closed_failed old mid new sifting before s same no_end rose falls =
    let none : mid.faults ≡ old.faults = s.no_fault in
    record {
      log = s.log;
      text = s.text;
      bytes = s.log;
      rest = [];
      parts = sym (append-nil s.log);
      short = s.short;
      taken = ap count_of same ∙ s.taken;
      ends = inr (no_end ∙ s.once, refl);
      fault = omega arith;
      never_falls = omega arith;
    }

-- a log of which no more is taken is closed
pub closed_over : (old mid new : SourceSeen) (fault : LogFault) → LogOver old mid fault → new.taken ≡ mid.taken → NotEnded mid new → LogOver old new fault
closed_over old mid new fault f same no_end = record {
  log = f.log;
  text = f.text;
  bytes = f.bytes;
  taken = ap count_of same ∙ f.taken;
  ends = ends_closed old mid new f.bytes f.log f.ends no_end;
  is = f.is;
}

pub part_sifted : (old new : SourceSeen) (read : Sifting) (before : List (List ℕ)) (fault : ReadFault)
    → SiftReadTo old new read before (Err fault) → SiftedTo old new read before (Err fault)
part_sifted old new read before (Log fault) part = part
part_sifted old new read before Device failed = failed

pub sifted_refused : (old new : SourceSeen) (sifting : Sifting) (logs : List (List ℕ)) (r : Result (Unit {0}) ReadFault) (fault : LogFault)
    → SiftedTo old new sifting logs r → r ≡ Err (Log fault) → LogOver old new fault × (new.faults ≡ old.faults)
sifted_refused old new sifting logs r fault h e = let P : Result (Unit {0}) ReadFault → Type 0 = λ r. SiftedTo old new sifting logs r in subst P e h

pub sifted_failed : (old new : SourceSeen) (sifting : Sifting) (logs : List (List ℕ)) (r : Result (Unit {0}) ReadFault)
    → SiftedTo old new sifting logs r → r ≡ Err Device → TakingFailed old new
sifted_failed old new sifting logs r h e = let P : Result (Unit {0}) ReadFault → Type 0 = λ r. SiftedTo old new sifting logs r in subst P e h

-- ===== the input
pub input_kept : (form : SumForm) (old new : SourceSeen) (blocks : List Skipped) (done : List ℕ → Type 0) (sifting : Sifting)
    → (s : LogSifted old new sifting []) → KeptSaid form (s.log ∷ []) blocks done → InputKeptSaid form old new blocks done
input_kept form old new blocks done sifting s k = record {
  sum = k.sum;
  read = record { log = s.log; text = s.text; at_end = s.at_end; once = s.once; short = s.short; taken = s.taken; no_fault = s.no_fault; is = k.is };
  wrote = k.wrote;
}

pub input_over : (form : SumForm) (old new : SourceSeen) (a : SinkSeen) (fault : LogFault) → LogOver old new fault × (new.faults ≡ old.faults)
    → InputSkipped form old new a a (Err (sum_end_at None fault))
input_over form old new a (Wrong error) f = absurd f.0.is
input_over form old new a (TooMuch line) f =
    (record { log = f.0.log; text = f.0.text; bytes = f.0.bytes; taken = f.0.taken; ends = f.0.ends; is = f.0.is; no_fault = f.1 }, refl)
input_over form old new a NoMemory f = refl
