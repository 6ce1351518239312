-- Pieces of a log that are fed, and a device that is read.
use Rattle.std.proofs.Common.{◌≡◌, ◌≤◌, ◌<◌, ◌^◌, ℕ, ◌+◌, List, [], ◌++◌, length, take, drop, refl, sym, ap, ◌∙◌, subst, arith, length-append, length-drop, append_assoc, append-nil, inl}
use Rattle.std.proofs.{lemmas.List.{take-append-drop, length-take-le}, lemmas.List.Sums.count_by-le-length}
use Rattle.std.proofs.KnownBytes.{Consumes-nil, Consumes-trans, Consumes-whole}
use Rattle.std.specs.{Prelude.{Err, ◌==◌}, Io.KnownBytes.{Consumes, IsAtEnd}}
use Rattle.diy_io.specs.{Count.{count_of, next_count, ends_after, Rose}, Taken.{SourceSeen, Took, EndedOnce, NotEnded}}
use Rattle.log_sum.specs.{declared.errors.SumError.SumError, Representing.{Kept, Represents, ShowsNone, FedTo, EndedTo, running_line}}
use Rattle.log_sum.specs.declared.errors.SumError.TheVariants as sums
use Rattle.log_sum_laws.proofs.Represented.{end_fault_stays}
use Rattle.msum7_files.specs.{declared.feeding.Feeding.Feeding, declared.feeding.LogFault.LogFault, FileFaults.sum_fault}
use Rattle.msum7_files.specs.Logs.{IsShort, max_piece, PrefixFull, TookCount}
use Rattle.msum7_files.specs.FileFeeding.{ReadsLogs, IsFaultOfLogs, IsEndFault, ReadSoFar, ReadWhole, ReadPart, LogFailed}
use Rattle.diy_io.proofs.{ConsumedLaws.prefix_of, EndLaws.{end_counted, no_end_counted}}

pub parts_of : (bytes piece : List ℕ) (n : ℕ) → bytes ++ piece ≡ (bytes ++ take n piece) ++ drop n piece
parts_of bytes piece n = ap (λ p. bytes ++ p) (sym (take-append-drop n piece)) ∙ sym (append_assoc bytes (take n piece) (drop n piece))

-- a piece that is refused
pub piece_refused : (kept : Kept) (logs : List (List ℕ)) (bytes piece : List ℕ) (n : ℕ) (error : SumError)
    → length bytes + n ≤ 2 ^ 40 → n ≤ length piece
    → FedTo kept logs (bytes ++ take n piece) (Err error) → IsFaultOfLogs logs (bytes ++ piece) (sum_fault error)
piece_refused kept logs bytes piece n (sums.Log error) short fits fed = record {
  prefix = bytes ++ take n piece;
  rest = drop n piece;
  parts = parts_of bytes piece n;
  short = omega (arith, length-append bytes (take n piece), length-take-le n piece fits);
  wrong = fed.0;
}
piece_refused kept logs bytes piece n sums.NoMemory short fits fed = tt

-- a piece that goes past the first 2^40 bytes
pub piece_full : (kept : Kept) (logs : List (List ℕ)) (bytes piece : List ℕ) (n line : ℕ)
    → length bytes + n ≡ 2 ^ 40 → n < length piece
    → Represents kept logs (bytes ++ take n piece) → line ≡ running_line (bytes ++ take n piece) → PrefixFull logs (bytes ++ piece) line
piece_full kept logs bytes piece n line full less represents number =
    let whole : length (bytes ++ take n piece) ≡ 2 ^ 40 = omega (arith, length-append bytes (take n piece), length-take-le n piece (omega arith)) in
    record {
      prefix = bytes ++ take n piece;
      rest = drop n piece;
      parts = parts_of bytes piece n;
      full = whole;
      more = omega (arith, length-drop n piece);
      no_fault = represents.no_fault;
      number = omega (arith, number, whole, count_by-le-length (λ byte. byte == 10) (bytes ++ take n piece));
    }

-- a log that is refused at its end
pub log_refused : (kept : Kept) (logs : List (List ℕ)) (log : List ℕ) (error : SumError) → EndedTo kept logs log (Err error) → IsEndFault logs log (sum_fault error)
log_refused kept logs log (sums.Log error) ended = λ more. end_fault_stays logs more log error ended.0
log_refused kept logs log sums.NoMemory ended = tt

-- nothing has been read
pub reads_nothing : (old : SourceSeen) (feeding : Feeding) (logs : List (List ℕ)) → ReadsLogs feeding logs [] → ReadSoFar old old feeding logs
reads_nothing old feeding logs reads = record {
  bytes = [];
  consumed = Consumes-nil old.left;
  taken = omega arith;
  no_end = refl;
  reads = reads;
  no_fault = refl;
}

-- bytes were taken from a source
pub took_of : (old new : SourceSeen) (buf : List ℕ) (n : ℕ) → n ≤ length buf → Consumes old.left new.left (take n buf)
    → new.taken ≡ count_of (old.taken + n) → Took old new (take n buf)
took_of old new buf n h consumed counted = record {
  consumed = consumed;
  counted = counted ∙ ap (λ k. count_of (old.taken + k)) (sym (length-take-le n buf h));
}

pub took_both : (old mid new : SourceSeen) (a : ℕ) (piece : List ℕ) → TookCount old mid a → Took mid new piece → TookCount old new (a + length piece)
took_both old mid new a piece p q = let e : new.taken ≡ count_of (mid.taken + length piece) = q.counted in omega arith

-- more was read and fed
pub reads_more : (old mid new : SourceSeen) (feeding after : Feeding) (logs : List (List ℕ)) (piece : List ℕ) (r : ReadSoFar old mid feeding logs)
    → Took mid new piece → NotEnded mid new → new.faults ≡ mid.faults → ReadsLogs after logs (r.bytes ++ piece) → ReadSoFar old new after logs
reads_more old mid new feeding after logs piece r took no_end same reads = record {
  bytes = r.bytes ++ piece;
  consumed = Consumes-trans old.left mid.left new.left r.bytes piece r.consumed took.consumed;
  taken = subst (TookCount old new) (sym (length-append r.bytes piece)) (took_both old mid new (length r.bytes) piece r.taken took);
  no_end = no_end ∙ r.no_end;
  reads = reads;
  no_fault = same ∙ r.no_fault;
}

-- the whole log was read
pub reads_whole : (old mid new : SourceSeen) (feeding : Feeding) (logs : List (List ℕ)) (piece : List ℕ) → ReadSoFar old mid feeding logs
    → Took mid new piece → piece ≡ [] → IsAtEnd new.left → EndedOnce mid new → new.faults ≡ mid.faults → ReadWhole old new feeding logs
reads_whole old mid new feeding logs piece r took none end once same =
    let all : r.bytes ++ piece ≡ r.bytes = ap (λ p. r.bytes ++ p) none ∙ append-nil r.bytes in
    let consumed : Consumes old.left new.left r.bytes =
    subst (Consumes old.left new.left) all (Consumes-trans old.left mid.left new.left r.bytes piece r.consumed took.consumed) in
    let both : TookCount old new (length r.bytes + length piece) = took_both old mid new (length r.bytes) piece r.taken took in
    let short : length piece ≡ 0 = ap length none in
    record {
      log = r.bytes;
      text = Consumes-whole old.left new.left r.bytes (λ whole. whole ≡ r.bytes) consumed end refl;
      at_end = end;
      once = once ∙ ap (λ n. next_count n) r.no_end;
      taken = omega arith;
      reads = r.reads;
      no_fault = same ∙ r.no_fault;
    }

-- bytes that were fed show no error, and are at most 2^40
reads_none : (feeding : Feeding) (logs : List (List ℕ)) (bytes : List ℕ) → ReadsLogs feeding logs bytes → ShowsNone logs bytes
reads_none feeding logs bytes reads = reads.represents.no_fault

reads_short : (feeding : Feeding) (logs : List (List ℕ)) (bytes : List ℕ) → ReadsLogs feeding logs bytes → feeding.read ≤ 2 ^ 40 → IsShort bytes
reads_short feeding logs bytes reads short = let read : feeding.read ≡ length bytes = reads.read in omega arith

-- no more is fed
pub reads_part : (old mid new : SourceSeen) (feeding : Feeding) (logs : List (List ℕ)) (piece : List ℕ) (fault : LogFault) (r : ReadSoFar old mid feeding logs)
    → feeding.read ≤ 2 ^ 40 → length piece ≤ max_piece
    → Took mid new piece → NotEnded mid new → new.faults ≡ mid.faults → IsFaultOfLogs logs (r.bytes ++ piece) fault → ReadPart old new logs fault
reads_part old mid new feeding logs piece fault r short one took no_end same is =
    let prefix = prefix_of old.left new.left (r.bytes ++ piece) (Consumes-trans old.left mid.left new.left r.bytes piece r.consumed took.consumed) in
    record {
      log = prefix.text;
      text = prefix.is;
      bytes = r.bytes ++ piece;
      taken = subst (TookCount old new) (sym (length-append r.bytes piece)) (took_both old mid new (length r.bytes) piece r.taken took);
      no_end = no_end ∙ r.no_end;
      up_to = record {
        rest = prefix.rest;
        parts = prefix.parts;
        earlier = r.bytes;
        piece = piece;
        pieces = refl;
        short = reads_short feeding logs r.bytes r.reads short;
        no_fault = reads_none feeding logs r.bytes r.reads;
        one = one;
      };
      is = is;
      no_fault = same ∙ r.no_fault;
    }

-- a piece is no longer than the room for it
pub short_piece : (buf : List ℕ) (n : ℕ) → n ≤ length buf → length buf ≤ max_piece → length (take n buf) ≤ max_piece
short_piece buf n fits room = omega (arith, length-take-le n buf fits)

-- the device failed
pub reads_failed : (old mid new : SourceSeen) (feeding : Feeding) (logs : List (List ℕ)) → ReadSoFar old mid feeding logs → feeding.read ≤ 2 ^ 40
    → new.taken ≡ mid.taken → NotEnded mid new → Rose mid.faults new.faults → mid.faults ≤ new.faults → LogFailed old new feeding logs
reads_failed old mid new feeding logs r short taken no_end fault never_falls =
    let same : mid.faults ≡ old.faults = r.no_fault in
    let prefix = prefix_of old.left mid.left r.bytes r.consumed in
    record {
      failed = record {
        log = prefix.text;
        text = prefix.is;
        bytes = r.bytes;
        rest = prefix.rest;
        parts = prefix.parts;
        short = reads_short feeding logs r.bytes r.reads short;
        no_fault = reads_none feeding logs r.bytes r.reads;
        taken = ap count_of taken ∙ r.taken;
        ends = inl (no_end ∙ r.no_end);
        fault = omega arith;
        never_falls = omega arith;
      };
      fed = inl r.reads;
    }

pub take_none : (buf : List ℕ) (n : ℕ) → n ≡ 0 → take n buf ≡ []
take_none buf n e = ap (λ k. take k buf) e

-- a read that gives nothing
pub read_end : (old mid new : SourceSeen) (feeding : Feeding) (logs : List (List ℕ)) (buf : List ℕ) (n : ℕ) → ReadSoFar old mid feeding logs
    → n ≤ length buf → Consumes mid.left new.left (take n buf) → IsAtEnd new.left → n ≡ 0
    → new.ends ≡ ends_after mid.ends (length buf) n → 0 < length buf → new.taken ≡ count_of (mid.taken + n) → new.faults ≡ mid.faults → ReadWhole old new feeding logs
read_end old mid new feeding logs buf n r h consumed end zero ends room counted same =
    reads_whole old mid new feeding logs (take n buf) r (took_of mid new buf n h consumed counted) (take_none buf n zero) end
    (ends ∙ end_counted mid.ends (length buf) n zero room) same

-- a read that gives something doesn't count an end
pub goes_on : (mid new : SourceSeen) (room n : ℕ) → new.ends ≡ ends_after mid.ends room n → (n ≡ 0 → ⊥) → NotEnded mid new
goes_on mid new room n ends some = ends ∙ no_end_counted mid.ends room n (omega (arith, some))
