-- A shelf in memory that fails at chosen calls.
use Rattle.std.specs.Prelude.{◌≡◌, ◌≤◌, ◌/◌, ℕ, List, [], drop, take, length, min, Some}
use Rattle.diy_io.specs.{Count.next_count, Shelf.{Mode, Idle, Reading, Writing, ShelfSeen, name_written}}
use Rattle.memory_devices.specs.{MemFiles.{NamedFile, MemFilesState, file_place, file_name_at, bytes_at, files_named, with_bytes}, declared.mem_shelf.Work.Work}
use Rattle.memory_devices.specs.declared.mem_shelf.Work.TheVariants as works

-- what it holds, its mode, the numbers of the calls that are to fail, the number of the next call, and its counts
pub record MemShelfState : Type 0 where
  pub held : MemFilesState
  pub mode : Mode
  pub fail : List ℕ
  pub calls : ℕ
  pub faults : ℕ
  pub taken : ℕ
  pub opened : ℕ
  pub ends : ℕ
  pub faults_at_open : ℕ

-- a new shelf: it has no files, space for this many files and this many appended bytes, and no open file; these calls are to fail,
-- and nothing is counted yet
abbrev pub new_shelf : ℕ → ℕ → List ℕ → MemShelfState
new_shelf files room fail = record {
  held = record { files = []; room = room; names = files };
  mode = Idle;
  fail = fail;
  calls = 0;
  faults = 0;
  taken = 0;
  opened = 0;
  ends = 0;
  faults_at_open = 0;
}

-- what a shelf holds once this many of the first bytes of a text are appended to the file that is written
abbrev pub held_with : MemShelfState → ℕ → List ℕ → MemFilesState
held_with shelf count bytes = with_bytes shelf.held (name_written shelf.mode) (take count bytes)

-- how many bytes of the first half of a text, rounded down, fit into a shelf
abbrev pub half_that_fits : MemShelfState → List ℕ → ℕ
half_that_fits shelf bytes = min (length bytes / 2) shelf.held.room

-- what it shows
abbrev pub mem_shelf_seen : MemShelfState → ShelfSeen
mem_shelf_seen shelf = record {
  files = Some (files_named shelf.held.files);
  mode = shelf.mode;
  faults = shelf.faults;
  taken = shelf.taken;
  opened = shelf.opened;
  ends = shelf.ends;
  faults_at_open = shelf.faults_at_open;
}

-- a call was counted, and the same calls are to fail
pub record Called (old new : MemShelfState) : Type 0 where
  pub calls : new.calls ≡ next_count old.calls
  pub fail : new.fail ≡ old.fail

-- no call was counted, and the same calls are to fail
pub record SameCall (old new : MemShelfState) : Type 0 where
  pub calls : new.calls ≡ old.calls
  pub fail : new.fail ≡ old.fail

-- the mode, from the index of the file that is read or written and how much of it was read
abbrev pub mode_of : List NamedFile → Work → Mode
mode_of files works.Idle = Idle
mode_of files (works.Reading file at') = Reading (file_name_at file files) (Some (drop at' (bytes_at file files)))
mode_of files (works.Writing file) = Writing (file_name_at file files)

-- the first file with the name of the file at this index is that file itself
abbrev pub IsPlace : ℕ → List NamedFile → Type 0
IsPlace place files = file_place (file_name_at place files) files ≡ Some place

-- the file that is read or written is the first with its name, and no more of it was read than it has
abbrev pub IsAt : List NamedFile → Work → Type 0
IsAt files works.Idle = Unit {0}
IsAt files (works.Reading file at') = IsPlace file files × (at' ≤ length (bytes_at file files))
IsAt files (works.Writing file) = IsPlace file files
