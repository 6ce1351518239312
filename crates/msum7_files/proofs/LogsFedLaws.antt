-- Logs that were fed to a summer, or weren't all.
use Rattle.std.proofs.Common.{◌≡◌, ℕ, List, [], length, sym, ◌∙◌, Some}
use Rattle.std.specs.Prelude.{Err, slice_get}
use Rattle.diy_io.specs.{Shelf.ShelfSeen, Sink.shown_bytes, Taken.SourceSeen, Wrote.SinkSeen}
use Rattle.log_sum.specs.Representing.{Represents}
use Rattle.msum7_files.specs.{declared.feeding.Feeding.Feeding, declared.feeding.ReadFault.ReadFault}
use Rattle.msum7_files.specs.{declared.files.FileFault.FileFault, FileFeeding.{LogSummed, SummedTo}, LogFiles.{FilesSoFar, LogFileTo}}
use Rattle.msum7_files.specs.LogsFed.{LogFilesRead, LogFilesUnread, LogInputRead, LogInputUnread, fault_in_file, fault_in_input}
use Rattle.msum7_files.specs.declared.feeding.LogFault.TheVariants.{Wrong, TooMuch, NoMemory}
use Rattle.msum7_files.specs.declared.feeding.ReadFault.TheVariants.{Log, Device}
use Rattle.msum7_files.specs.declared.files.FileFault.TheVariants.{Missing, Read}
use Rattle.msum7_files.specs.declared.sum_form.SumForm.TheVariants as forms
use Rattle.msum7_files.proofs.{EndLaws.input_faulty, FilesLaws.files_refused}

-- a sink, for which it doesn't matter which
abbrev some_sink : SinkSeen
some_sink = record { shown = shown_bytes []; faults = 0 }

-- a file isn't fed whole
pub files_unread : (old mid new : ShelfSeen) (feeding after : Feeding) (words : List (List ℕ)) (first place : ℕ) (name : List ℕ) (fault : FileFault)
    → (s : FilesSoFar old mid feeding words first place) → mid.files ≡ old.files → slice_get words place ≡ Some name
    → LogFileTo mid new after s.logs name (Err fault) → LogFilesUnread old new words first (fault_in_file place fault)
files_unread old mid new feeding after words first place name Missing s files word f =
    (files_refused forms.Log old mid new some_sink feeding after words first place name Missing s files word f).0
files_unread old mid new feeding after words first place name (Read Device) s files word f =
    (files_refused forms.Log old mid new some_sink feeding after words first place name (Read Device) s files word f).0
files_unread old mid new feeding after words first place name (Read (Log (Wrong error))) s files word f =
    (files_refused forms.Log old mid new some_sink feeding after words first place name (Read (Log (Wrong error))) s files word f).0
files_unread old mid new feeding after words first place name (Read (Log (TooMuch line))) s files word f =
    (files_refused forms.Log old mid new some_sink feeding after words first place name (Read (Log (TooMuch line))) s files word f).0
files_unread old mid new feeding after words first place name (Read (Log NoMemory)) s files word f = tt

-- all files were fed
pub files_fed : (old new : ShelfSeen) (feeding : Feeding) (words : List (List ℕ)) (first place : ℕ)
    → FilesSoFar old new feeding words first place → place ≡ length words
    → LogFilesRead old new words first (λ logs. Represents feeding.summer logs [])
files_fed old new feeding words first place s all =
    record {
      logs = s.logs;
      all = sym s.count ∙ all;
      are = s.are;
      no_fault = s.no_fault;
      took = s.took;
      ends = s.ends;
      holds = s.reads.represents;
    }

-- the input isn't fed whole
pub input_unread : (old new : SourceSeen) (feeding : Feeding) (fault : ReadFault) → SummedTo old new feeding [] (Err fault)
    → LogInputUnread old new (fault_in_input fault)
input_unread old new feeding (Log (Wrong error)) f = (input_faulty forms.Log old new some_sink (Wrong error) f).0
input_unread old new feeding (Log (TooMuch line)) f = (input_faulty forms.Log old new some_sink (TooMuch line) f).0
input_unread old new feeding (Log NoMemory) f = tt
input_unread old new feeding Device f = f.failed

-- the input was fed
pub input_fed : (old new : SourceSeen) (feeding : Feeding) → LogSummed old new feeding []
    → LogInputRead old new (λ logs. Represents feeding.summer logs [])
input_fed old new feeding s = record {
  log = s.log;
  text = s.text;
  at_end = s.at_end;
  once = s.once;
  short = s.short;
  taken = s.taken;
  no_fault = s.no_fault;
  holds = s.reads.represents;
}
