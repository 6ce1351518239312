-- Laws for callers: where the test is right, and the logs have no error and a block of it, and no device fails, the states are judged.
-- Source: own.
use Rattle.std.proofs.Common.{◌≡◌, ℕ, List, [], ◌∷◌, Option, Some, None, Ok, Err, refl, sym, ap, subst, ◌∙◌, inl, inr}
use Rattle.std.specs.Prelude.{◌⊎◌, MatchOption, Result, unwrap_or}
use Rattle.diy_io.specs.{Count.Rose, Shelf.{Files, ShelfSeen}, Wrote.SinkSeen, Opened.{FileAbsent, IsFile, name_at}}
use Rattle.relax_edges.specs.declared.kinds.ArchName.{ArchName}
use Rattle.arch_trait.specs.Writing.{Writing}
use Rattle.litmus_text.specs.TestReading.{TestRead}
use Rattle.log_sum.specs.{declared.errors.LogError.LogError, Summed.StateSummed}
use Rattle.tests_from_files.specs.{declared.errors.TestFileError.TestFileError, FilesRead.FileFailed, TestSaid.test_said}
use Rattle.msum7_files.specs.{Logs.{AreWholeLogs, IsShort, IsText}, LogsFed.{LogFilesRead, LogInputRead}}
use Rattle.msum7_files.specs.{SumEnds.{LogFileMissing, SumShelfFailed}, RightLogs.{NameRightLogs, right_not_wrong, short_not_long}}
use Rattle.msum7_files.specs.RightLogs.{no_file_long, no_file_missing, no_file_wrong, same_logs}
use Rattle.states_of_logs.specs.{declared.states_end.StatesEnd.StatesEnd, StatesSummed.{states_in_logs}}
use Rattle.states_of_logs.specs.StatesEnds.{AfterTest, FilesJudged, InputJudged, StatesSeen, TestAlone, TestIsAbsent, TestIsWrong}
use Rattle.states_of_logs.specs.declared.states_end.StatesEnd.TheVariants as ends
use Rattle.states_of_logs.specs.declared.states_end.StatesKind.TheVariants as kinds

-- the file that an argument names is this test of an architecture
pub record IsRightTest (files : Files) (arch : ArchName) (w : Writing) (words : List (List ℕ)) (test : ℕ) (read : TestRead) : Type 0 where
  pub text : List ℕ
  pub there : files (name_at words test) ≡ Some text
  pub is : test_said arch w text ≡ Ok read

-- logs have no error, and a block of a test
pub record HaveBlock (read : TestRead) (logs : List (List ℕ)) : Type 0 where
  pub states : List StateSummed
  pub are : states_in_logs read.name logs ≡ Ok (Some states)

-- an argument names the file of a test of an architecture, and those from an index on name files that are logs without an error, each of at
-- most 2^40 bytes, with a block of the test
pub record AreTestAndLogs (files : Files) (arch : ArchName) (w : Writing) (words : List (List ℕ)) (test first : ℕ) : Type 0 where
  pub read : TestRead
  pub is_test : IsRightTest files arch w words test read
  pub logs : NameRightLogs files words first
  pub block : HaveBlock read logs.logs

-- a text that an input may have is a log of at most 2^40 bytes without an error, with a block of a test
pub record IsLogOf (read : TestRead) (log : List ℕ) : Type 0 where
  pub short : IsShort log
  pub right : AreWholeLogs (log ∷ [])
  pub block : HaveBlock read (log ∷ [])

-- an argument names the file of a test of an architecture, and each text that the input may have is a log of it
pub record AreTestAndLog (files : Files) (left : Option (List ℕ)) (arch : ArchName) (w : Writing) (words : List (List ℕ)) (test : ℕ) : Type 0 where
  pub read : TestRead
  pub is_test : IsRightTest files arch w words test read
  pub log : (text : List ℕ) → IsText left text → IsLogOf read text

-- a file that is shown has one text
one_text : (seen : Option Files) (files : Files) (name a b : List ℕ) → seen ≡ Some files → files name ≡ Some a → IsFile seen name b → a ≡ b
one_text seen files name a b shown there named =
    let same : files name ≡ Some b = subst (λ (o : Option Files). IsFile o name b) shown named in
    ap (λ (o : Option (List ℕ)). unwrap_or o a) (sym there ∙ same)

-- a text that is right has no error
not_both : {X E : Type 0} (judge : List ℕ → Result X E) (a b : List ℕ) (x : X) (e : E) → a ≡ b → judge a ≡ Ok x → judge b ≡ Err e → ⊥
not_both {X} {E} judge a b x e same right wrong =
    let both : ◌≡◌ {A = Result X E} (Ok x) (Err e) = sym right ∙ ap judge same ∙ wrong in cc both

-- a text that is right gives one thing
one_right : {X E : Type 0} (judge : List ℕ → Result X E) (a b : List ℕ) (x y : X) → a ≡ b → judge a ≡ Ok x → judge b ≡ Ok y → x ≡ y
one_right {X} {E} judge a b x y same p q = let both : ◌≡◌ {A = Result X E} (Ok x) (Ok y) = sym p ∙ ap judge same ∙ q in cc both

module _ (arch : ArchName) (w : Writing) (words : List (List ℕ)) (test : ℕ) (files : Files) (right : TestRead)
    (is : IsRightTest files arch w words test right) where
  -- the file of the test isn't wrong
  test_not_wrong : (old new : ShelfSeen) (file : ℕ) (error : TestFileError) → old.files ≡ Some files
      → TestIsWrong arch w old new words test file error → ⊥
  test_not_wrong old new file error shown h =
      not_both (test_said arch w) is.text h.faulty.text right error
      (one_text old.files files (name_at words test) is.text h.faulty.text shown is.there h.faulty.named) is.is h.faulty.fault

  -- it isn't absent
  test_not_absent : (old new : ShelfSeen) → old.files ≡ Some files → FileAbsent old new (name_at words test) → ⊥
  test_not_absent old new shown h =
      let none : files (name_at words test) ≡ None =
      subst (λ (o : Option Files). MatchOption o (Rose old.faults new.faults) (λ f. f (name_at words test) ≡ None)) shown h.absent in
      let both : ◌≡◌ {A = Option (List ℕ)} (Some is.text) None = sym is.there ∙ none in cc both

  -- and it is this one
  same_read : (old : ShelfSeen) (text : List ℕ) (read : TestRead) → old.files ≡ Some files → IsFile old.files (name_at words test) text
      → test_said arch w text ≡ Ok read → right ≡ read
  same_read old text read shown named said =
      one_right (test_said arch w) is.text text right read (one_text old.files files (name_at words test) is.text text shown is.there named) is.is said

-- logs with a block of a test don't lack one
not_without : (right read : TestRead) (have found : List (List ℕ)) → HaveBlock right have → right ≡ read → found ≡ have
    → states_in_logs read.name found ≡ Ok None → ⊥
not_without right read have found block same same_logs none =
    let all : states_in_logs right.name have ≡ Ok None =
    ap (λ (t : TestRead). states_in_logs t.name have) same ∙ ap (λ (logs : List (List ℕ)). states_in_logs read.name logs) (sym same_logs) ∙ none in
    let both : ◌≡◌ {A = Result (Option (List StateSummed)) LogError} (Ok (Some block.states)) (Ok None) = sym block.are ∙ all in cc both

-- if the files are shown, the test is right, the logs are right and have a block of it, and no device fails, the states are written with
-- their verdicts, or there is no memory
pub right_files_judged : (arch : ArchName) (w : Writing) (old new : ShelfSeen) (words : List (List ℕ)) (test first : ℕ)
    (before after : SinkSeen) (end : StatesEnd) (files : Files) → FilesJudged arch w old new words test first before after end → old.files ≡ Some files
    → AreTestAndLogs files arch w words test first
    → (Rose old.faults new.faults → ⊥) → (Rose before.faults after.faults → ⊥) → (end ≡ ends.Done) ⊎ (end ≡ ends.NoMemory)
right_files_judged arch w old new words test first before after ends.Done files h shown right shelf out = inl refl
right_files_judged arch w old new words test first before after ends.NoMemory files h shown right shelf out = inr refl
right_files_judged arch w old new words test first before after ends.OutFault files h shown right shelf out =
    absurd (out h.holds.holds.wrote.fault)
right_files_judged arch w old new words test first before after (ends.Wrong (Some file) line (kinds.Test kind)) files h shown right shelf out =
    absurd (test_not_wrong arch w words test files right.read right.is_test old new file _ shown h.0)
right_files_judged arch w old new words test first before after (ends.Wrong (Some file) line kinds.WrongArch) files h shown right shelf out =
    absurd (test_not_wrong arch w words test files right.read right.is_test old new file _ shown h.0)
right_files_judged arch w old new words test first before after (ends.Wrong (Some file) line (kinds.Log kind)) files h shown right shelf out =
    absurd (no_file_wrong words first files right.logs h.0.mid new file _ (h.0.files ∙ shown) h.0.holds)
right_files_judged arch w old new words test first before after (ends.Wrong None line kind) files h shown right shelf out = absurd h
right_files_judged arch w old new words test first before after (ends.TooMuch (Some file) line) files h shown right shelf out =
    absurd (no_file_long words first files right.logs h.0.mid new file line (h.0.files ∙ shown) h.0.holds)
right_files_judged arch w old new words test first before after (ends.TooMuch None line) files h shown right shelf out = absurd h
right_files_judged arch w old new words test first before after (ends.NoFile word) files h shown right shelf out = absurd (of_absent h.0)
  where
    of_absent : TestIsAbsent old new words test word ⊎ AfterTest arch w old words test (λ read mid. LogFileMissing mid new words first word)
        → ⊥
    of_absent (inl no_test) = test_not_absent arch w words test files right.read right.is_test old new shown no_test.absent
    of_absent (inr no_log) = no_file_missing words first files right.logs no_log.mid new word (no_log.files ∙ shown) no_log.holds
right_files_judged arch w old new words test first before after ends.ShelfFault files h shown right shelf out = absurd (of_failed h.0)
  where
    of_failed : FileFailed old new (name_at words test) ⊎ AfterTest arch w old words test (λ read mid. SumShelfFailed mid new words first)
        → ⊥
    of_failed (inl at_test) = shelf at_test.fault
    of_failed (inr at_log) = shelf (subst (λ (n : ℕ). Rose n new.faults) at_log.is_test.no_fault at_log.holds.fault)
right_files_judged arch w old new words test first before after (ends.NoBlock word) files h shown right shelf out =
    let a : AfterTest arch w old words test (λ read mid. LogFilesRead mid new words first (λ logs. states_in_logs read.name logs ≡ Ok None)) = h.1 in
    absurd (not_without right.read a.read right.logs.logs a.holds.logs right.block
    (same_read arch w words test files right.read right.is_test old a.is_test.text a.read shown a.is_test.named a.is_test.is)
    (same_logs words first files right.logs a.mid.files a.holds.logs (a.files ∙ shown) a.holds.are a.holds.all) a.holds.holds)
right_files_judged arch w old new words test first before after ends.InputFault files h shown right shelf out = absurd h

-- the same for logs that are the input
pub right_input_judged : (arch : ArchName) (w : Writing) (old new : StatesSeen) (words : List (List ℕ)) (test : ℕ) (end : StatesEnd)
    (files : Files)
    → InputJudged arch w old new words test end → old.shelf.files ≡ Some files → AreTestAndLog files old.input.left arch w words test
    → (Rose old.shelf.faults new.shelf.faults → ⊥) → (Rose old.input.faults new.input.faults → ⊥) → (Rose old.out.faults new.out.faults → ⊥)
    → (end ≡ ends.Done) ⊎ (end ≡ ends.NoMemory)
right_input_judged arch w old new words test ends.Done files h shown right shelf input out = inl refl
right_input_judged arch w old new words test ends.NoMemory files h shown right shelf input out = inr refl
right_input_judged arch w old new words test ends.OutFault files h shown right shelf input out = absurd (out h.holds.holds.wrote.fault)
right_input_judged arch w old new words test (ends.Wrong (Some file) line (kinds.Test kind)) files h shown right shelf input out =
    absurd (test_not_wrong arch w words test files right.read right.is_test old.shelf new.shelf file _ shown h.0)
right_input_judged arch w old new words test (ends.Wrong (Some file) line kinds.WrongArch) files h shown right shelf input out =
    absurd (test_not_wrong arch w words test files right.read right.is_test old.shelf new.shelf file _ shown h.0)
right_input_judged arch w old new words test (ends.Wrong (Some file) line (kinds.Log kind)) files h shown right shelf input out = absurd h
right_input_judged arch w old new words test (ends.Wrong None line (kinds.Log kind)) files h shown right shelf input out =
    let s = h.0.holds in absurd (right_not_wrong (s.log ∷ []) (s.log ∷ []) _ (right.log s.log s.text).right refl (s.is.wrong []))
right_input_judged arch w old new words test (ends.Wrong None line (kinds.Test kind)) files h shown right shelf input out = absurd h
right_input_judged arch w old new words test (ends.Wrong None line kinds.WrongArch) files h shown right shelf input out = absurd h
right_input_judged arch w old new words test (ends.TooMuch None line) files h shown right shelf input out =
    let s = h.0.holds in absurd (short_not_long [] s.log s.bytes line (right.log s.log s.text).short s.is)
right_input_judged arch w old new words test (ends.TooMuch (Some file) line) files h shown right shelf input out = absurd h
right_input_judged arch w old new words test (ends.NoFile word) files h shown right shelf input out =
    absurd (test_not_absent arch w words test files right.read right.is_test old.shelf new.shelf shown h.0.absent)
right_input_judged arch w old new words test ends.ShelfFault files h shown right shelf input out = absurd (shelf h.0.fault)
right_input_judged arch w old new words test ends.InputFault files h shown right shelf input out = absurd (input h.0.holds.fault)
right_input_judged arch w old new words test (ends.NoBlock word) files h shown right shelf input out =
    let a : TestAlone arch w old.shelf new.shelf words test (λ read. LogInputRead old.input new.input (λ logs. states_in_logs read.name logs ≡ Ok None)) = h.1 in
    absurd (not_without right.read a.read (a.holds.log ∷ []) (a.holds.log ∷ []) (right.log a.holds.log a.holds.text).block
    (same_read arch w words test files right.read right.is_test old.shelf a.is_test.text a.read shown a.is_test.named a.is_test.is) refl a.holds.holds)
