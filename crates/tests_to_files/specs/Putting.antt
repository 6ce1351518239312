-- What it means that files were written on a shelf, or that it failed at one of them.
-- Source: own.
use Rattle.std.specs.{Prelude.{◌≡◌, ◌⊎◌, ℕ, List, [], ◌∷◌, ◌++◌}, Option.option_map}
use Rattle.tests_to_files.specs.declared.putting.File.{File}
use Rattle.diy_io.specs.Shelf.{Files, ShelfSeen, Idle, Writing, with_file, CountsStay, Faulted}

-- a file that is to be written: its path and its bytes
abbrev pub file_put : File → List ℕ × List ℕ
file_put file = (file.path.bytes, file.bytes.now)

-- the files once these are written, one after another, each with its path and its bytes
abbrev pub with_files : List (List ℕ × List ℕ) → Files → Files
with_files [] files = files
with_files (file ∷ rest) files = with_files rest (with_file file.0 file.1 files)

-- these files were written on a shelf without an error, and none is open
pub record PutFiles (old new : ShelfSeen) (added : List (List ℕ × List ℕ)) : Type 0 where
  pub mode : new.mode ≡ Idle
  pub files : new.files ≡ option_map (with_files added) old.files
  pub no_fault : new.faults ≡ old.faults
  pub counts : CountsStay old new

-- these files were written on a shelf, and then it failed at the one with this path: that one is as it was, or has a prefix of the text
pub record PutPart (old new : ShelfSeen) (added : List (List ℕ × List ℕ)) (path text : List ℕ) : Type 0 where
  pub prefix : List ℕ
  pub rest : List ℕ
  pub parts : text ≡ prefix ++ rest
  pub mode : new.mode ≡ Idle
  pub files : (new.files ≡ option_map (with_files added) old.files) ⊎ (new.files ≡ option_map (with_files (added ++ (path, prefix) ∷ [])) old.files)
  pub counts : CountsStay old new
  pub faulted : Faulted old new

-- a shelf failed at a file, given by its path and its text, before any was written: that one is as it was, or has a prefix of the text
abbrev pub FailsAt : ShelfSeen → ShelfSeen → List ℕ × List ℕ → Type 0
FailsAt old new file = PutPart old new [] file.0 file.1

-- a file is being written on a shelf without an error, and has these bytes so far
pub record Filling (old new : ShelfSeen) (path bytes : List ℕ) : Type 0 where
  pub mode : new.mode ≡ Writing path
  pub files : new.files ≡ option_map (with_file path bytes) old.files
  pub no_fault : new.faults ≡ old.faults
  pub counts : CountsStay old new
