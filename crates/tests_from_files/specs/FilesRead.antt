-- What a call that reads a file took from it, and what it did to its shelf.
-- Source: own.
use Rattle.std.specs.Prelude.{◌≡◌, ◌≤◌, nat_lt, if◌then◌else◌, ◌⊎◌, ◌+◌, ⊤, ℕ, List, [], ◌∷◌, ◌++◌, length, take, Option, OnOk, OnErr, Result, Ok, Err}
use Rattle.diy_io.specs.{Count.Rose, Shelf.{Files, ShelfSeen}, Opened.{EndsSeen, EndsSeenOrOneMore, FileAbsent, IsFile, TookFiles}, declared.errors.Failed.Failed}
use Rattle.litmus_text.specs.declared.limits.TheConstants.{MAX_TEST_TEXT}
use Rattle.tests_from_files.specs.declared.errors.FileFault.{FileFault}
use Rattle.tests_from_files.specs.declared.errors.FileFault.TheVariants as faults

-- how often the end of a text is seen, if it is read to its end or up to one byte more than a test may have
abbrev pub ends_in : List ℕ → ℕ
ends_in text = if nat_lt MAX_TEST_TEXT (length text) then 0 else 1

-- a file was opened, and this text was taken from it: all of it, or its first bytes, one more than a test may have; then it was
-- closed, or closing it failed; its end was seen once, if it isn't longer, and the error count is known that there was when it was opened
pub record FileRead (old new : ShelfSeen) (name text : List ℕ) (closed : Result (Unit {0}) Failed) : Type 0 where
  pub whole : List ℕ
  pub named : IsFile old.files name whole
  pub text_is : text ≡ take (MAX_TEST_TEXT + 1) whole
  pub took : TookFiles old new (text ∷ [])
  pub ends : EndsSeen old new (ends_in whole)
  pub at_open : new.faults_at_open ≡ old.faults
  pub no_fault : OnOk closed (new.faults ≡ old.faults)
  pub fault : OnErr closed (Rose old.faults new.faults)

-- these are the first bytes of a file, as far as it is shown, and no more than a test may have
pub record Begins (files : Option Files) (name bytes : List ℕ) : Type 0 where
  pub text : List ℕ
  pub named : IsFile files name text
  pub rest : List ℕ
  pub parts : text ≡ bytes ++ rest
  pub short : length bytes ≤ MAX_TEST_TEXT

-- the shelf failed: no file was opened, or the first bytes of this one were taken, at most as many as a test may have
pub record FileFailed (old new : ShelfSeen) (name : List ℕ) : Type 0 where
  pub fault : Rose old.faults new.faults
  pub took : TookFiles old new [] ⊎ ((bytes : List ℕ) × Begins old.files name bytes × TookFiles old new (bytes ∷ []))
  pub ends : EndsSeenOrOneMore old new 0

-- all of a file was taken, its end was seen once, its text is judged to be this, and there was no error of the shelf
pub record FileIs {X E : Type 0} (judge : List ℕ → Result X E) (old new : ShelfSeen) (name : List ℕ) (x : X) : Type 0 where
  pub text : List ℕ
  pub named : IsFile old.files name text
  pub is : judge text ≡ Ok x
  pub took : TookFiles old new (text ∷ [])
  pub ends : EndsSeen old new 1
  pub no_fault : new.faults ≡ old.faults

-- the text of a file is judged to have this error, and all of it was taken, and its end was seen, or its first bytes, one more than a
-- test may have; the shelf hadn't failed when it was opened
pub record FileFaulty {X E : Type 0} (judge : List ℕ → Result X E) (old new : ShelfSeen) (name : List ℕ) (error : E) : Type 0 where
  pub text : List ℕ
  pub named : IsFile old.files name text
  pub fault : judge text ≡ Err error
  pub took : TookFiles old new (take (MAX_TEST_TEXT + 1) text ∷ [])
  pub ends : EndsSeen old new (ends_in text)
  pub at_open : new.faults_at_open ≡ old.faults

-- the result of reading a file, and the text that was read, if one was; if there is no memory, nothing is said
abbrev pub FileTo : ShelfSeen → ShelfSeen → List ℕ → List ℕ → Result (Result (Unit {0}) Failed) FileFault → Type 0
FileTo old new name text (Ok closed) = FileRead old new name text closed
FileTo old new name text (Err faults.Missing) = FileAbsent old new name
FileTo old new name text (Err faults.Failed) = FileFailed old new name
FileTo old new name text (Err faults.NoMemory) = ⊤
