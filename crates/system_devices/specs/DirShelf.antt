-- A shelf over the files of the system, which shows none of them.
use Rattle.std.specs.Prelude.{ℕ, List, None}
use Rattle.diy_io.specs.Shelf.{Mode, Idle, Reading, Writing, ShelfSeen}
use Rattle.system_devices.specs.declared.dir_shelf.AtFile.{AtFile}
use Rattle.system_devices.specs.declared.dir_shelf.AtFile.TheVariants as at_files

-- the mode, with the name of the file that is read or written; the bytes left to read aren't shown
abbrev pub mode_seen : {F : Type 0} → List ℕ → AtFile F → Mode
mode_seen name at_files.Closed = Idle
mode_seen name (at_files.Reading file) = Reading name None
mode_seen name (at_files.Writing file) = Writing name

-- its mode and its counts
pub record DirShelfState : Type 0 where
  pub mode : Mode
  pub faults : ℕ
  pub taken : ℕ
  pub opened : ℕ
  pub ends : ℕ
  pub faults_at_open : ℕ

-- it shows nothing of its files
abbrev pub dir_shelf_seen : DirShelfState → ShelfSeen
dir_shelf_seen shelf = record {
  files = None;
  mode = shelf.mode;
  faults = shelf.faults;
  taken = shelf.taken;
  opened = shelf.opened;
  ends = shelf.ends;
  faults_at_open = shelf.faults_at_open;
}
