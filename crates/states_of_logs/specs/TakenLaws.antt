-- Laws for callers: how much is taken of the file that was opened last, and of the input.
-- Source: own.
use Rattle.std.proofs.Common.{◌≡◌, ◌≤◌, ◌<◌, ◌+◌, ◌^◌, ◌++◌, ℕ, All, List, [], ◌∷◌, length, get_or, refl, sym, subst, ap, ◌∙◌, arith, inl}
use Rattle.std.proofs.Common.{inr, length-append}
use Rattle.std.proofs.lemmas.List.{Elements.All-append}
use Rattle.std.specs.Prelude.{◌⊎◌}
use Rattle.diy_io.specs.{Count.count_of, Shelf.ShelfSeen, Wrote.SinkSeen, Opened.{TookFiles, last_taken, name_at}}
use Rattle.diy_io.proofs.OpenedLaws.{took_within}
use Rattle.relax_edges.specs.declared.kinds.ArchName.{ArchName}
use Rattle.arch_trait.specs.Writing.{Writing}
use Rattle.litmus_text.specs.{declared.limits.TheConstants.MAX_TEST_TEXT, TestReading.TestRead}
use Rattle.tests_from_files.specs.{FilesRead.{FileFailed, FileIs}, FirstBytes.tests_by_first_bytes, TestSaid.test_said}
use Rattle.msum7_files.specs.{SumEnds.{LogFileMissing, SumShelfFailed}}
use Rattle.states_of_logs.specs.{declared.states_end.StatesEnd.StatesEnd, StatesEnds.{AfterTest, FilesJudged, TestIsAbsent}}
use Rattle.states_of_logs.specs.declared.states_end.StatesEnd.TheVariants as ends

-- at most 2^40 bytes each
abbrev AreShort : List (List ℕ) → Type 0
AreShort taken = All (λ bytes. length bytes ≤ 2 ^ 40) taken

last_of_both : (taken : ℕ) (xs ys : List (List ℕ)) → last_taken taken (xs ++ ys) ≡ last_taken (last_taken taken xs) ys
last_of_both taken [] ys = refl
last_of_both taken (x ∷ xs) ys = last_of_both (length x) xs ys

-- the last file after others, where the count of what was taken before is known
last_counted : (taken before : ℕ) (ys : List (List ℕ)) → count_of taken ≡ count_of before
    → count_of (last_taken taken ys) ≡ count_of (last_taken before ys)
last_counted taken before [] e = e
last_counted taken before (y ∷ ys) e = refl

-- files after others
took_both : (old mid new : ShelfSeen) (xs ys : List (List ℕ)) → TookFiles old mid xs → TookFiles mid new ys → TookFiles old new (xs ++ ys)
took_both old mid new xs ys p q =
    let earlier : count_of mid.opened ≡ count_of (old.opened + length xs) = p.opened in
    let later : count_of new.opened ≡ count_of (mid.opened + length ys) = q.opened in
    record {
      opened = omega (arith, length-append xs ys);
      last =
          q.last ∙ last_counted mid.taken (last_taken old.taken xs) ys p.last
          ∙ ap count_of (sym (last_of_both old.taken xs ys));
    }

-- if files are short, at most 2^40 bytes were taken of the last one that was opened since
within : (old new : ShelfSeen) (taken : List (List ℕ)) → TookFiles old new taken → AreShort taken
    → count_of old.opened < count_of new.opened → new.taken ≤ 2 ^ 40
within old new taken took short more = took_within (2 ^ 40) old new taken (omega arith) took short more

one_short : (bytes : List ℕ) → length bytes ≤ MAX_TEST_TEXT + 1 → AreShort (bytes ∷ [])
one_short bytes few k d less =
    let zero : k ≡ 0 = omega arith in subst (λ i. length (get_or (bytes ∷ []) i d) ≤ 2 ^ 40) (sym zero) (omega arith)

none_short : AreShort []
none_short k d less = absurd (omega arith)

module _ (arch : ArchName) (w : Writing) (old mid new : ShelfSeen) (words : List (List ℕ)) (test : ℕ) (read : TestRead)
    (is : FileIs (test_said arch w) old mid (name_at words test) read) where
  test_short : AreShort (is.text ∷ [])
  test_short =
      let short : length is.text ≤ MAX_TEST_TEXT = (tests_by_first_bytes arch w).short is.text read is.is in one_short is.text (omega arith)

  -- logs after the test
  logs_within : (logs : List (List ℕ)) → TookFiles mid new logs → AreShort logs → count_of old.opened < count_of new.opened
      → new.taken ≤ 2 ^ 40
  logs_within logs took short more =
      within old new (is.text ∷ logs) (took_both old mid new (is.text ∷ []) logs is.took took)
      (All-append (λ bytes. length bytes ≤ 2 ^ 40) (is.text ∷ []) logs test_short short) more

  -- a shelf that failed at a log
  failed_within : (first : ℕ) → SumShelfFailed mid new words first → count_of old.opened < count_of new.opened → new.taken ≤ 2 ^ 40
  failed_within first h more = elim h.took [
    | inl none ↦ logs_within h.before none h.place_is.are.short more
    | inr part ↦ logs_within (h.before ++ part.0 ∷ []) part.2
        (All-append (λ bytes. length bytes ≤ 2 ^ 40) h.before (part.0 ∷ []) h.place_is.are.short
        (λ k d less. let zero : k ≡ 0 = omega arith in subst (λ i. length (get_or (part.0 ∷ []) i d) ≤ 2 ^ 40) (sym zero) part.1.short)) more
  ]

-- the end isn't one by which more may have been taken: a text that is wrong, a log that is too long, or no memory
abbrev pub StaysWithin : StatesEnd → Type 0
StaysWithin (ends.Wrong file line kind) = ⊥
StaysWithin (ends.TooMuch file line) = ⊥
StaysWithin ends.NoMemory = ⊥
StaysWithin _ = Unit {0}

-- if a file was opened, at most 2^40 bytes were taken of the last one, unless a text is wrong or too long, or there is no memory
pub judged_within : (arch : ArchName) (w : Writing) (old new : ShelfSeen) (words : List (List ℕ)) (test first : ℕ)
    (before after : SinkSeen) (end : StatesEnd)
    → FilesJudged arch w old new words test first before after end → StaysWithin end → count_of old.opened < count_of new.opened
    → new.taken ≤ 2 ^ 40
judged_within arch w old new words test first before after ends.Done h stays more =
    logs_within arch w old h.mid new words test h.read h.is_test h.holds.logs h.holds.took h.holds.are.short more
judged_within arch w old new words test first before after ends.OutFault h stays more =
    logs_within arch w old h.mid new words test h.read h.is_test h.holds.logs h.holds.took h.holds.are.short more
judged_within arch w old new words test first before after (ends.NoBlock word) h stays more =
    let a = h.1 in logs_within arch w old a.mid new words test a.read a.is_test a.holds.logs a.holds.took a.holds.are.short more
judged_within arch w old new words test first before after (ends.NoFile word) h stays more = of_absent h.0
  where
    of_absent : TestIsAbsent old new words test word ⊎ AfterTest arch w old words test (λ read mid. LogFileMissing mid new words first word)
        → new.taken ≤ 2 ^ 40
    of_absent (inl no_test) = within old new [] no_test.absent.took none_short more
    of_absent (inr a) =
        logs_within arch w old a.mid new words test a.read a.is_test a.holds.before a.holds.took a.holds.place_is.are.short more
judged_within arch w old new words test first before after ends.ShelfFault h stays more = of_failed h.0
  where
    of_test : FileFailed old new (name_at words test) → new.taken ≤ 2 ^ 40
    of_test f = elim f.took [
      | inl none ↦ within old new [] none none_short more
      | inr part ↦ within old new (part.0 ∷ []) part.2 (one_short part.0 (let short : length part.0 ≤ MAX_TEST_TEXT = part.1.short in omega arith)) more
    ]

    of_failed : FileFailed old new (name_at words test) ⊎ AfterTest arch w old words test (λ read mid. SumShelfFailed mid new words first)
        → new.taken ≤ 2 ^ 40
    of_failed (inl at_test) = of_test at_test
    of_failed (inr a) = failed_within arch w old a.mid new words test a.read a.is_test first a.holds more
judged_within arch w old new words test first before after (ends.Wrong file line kind) h stays more = absurd stays
judged_within arch w old new words test first before after (ends.TooMuch file line) h stays more = absurd stays
judged_within arch w old new words test first before after ends.NoMemory h stays more = absurd stays
judged_within arch w old new words test first before after ends.InputFault h stays more = absurd h
