-- `read_file`: what was read so far was fed.
use Rattle.std.proofs.Common.{◌≡◌, ◌-◌, ◌^◌, ℕ, List, []}
use Rattle.diy_io.specs.Shelf.{IsReading}
use Rattle.msum7_files.specs.{SkipReading.SiftsLogs, SkipReading.SiftSoFar, LogFiles.log_seen}
use Rattle.msum7_files.proofs.sift_files.read_file.Given as goal

-- what was read so far was fed, and the file is still open
abbrev pub invariant-loop-count : goal.invariant-loop-count
invariant-loop-count g l = record {
  read :
      (logs : List (List ℕ)) → SiftsLogs l.initial.sifting logs []
      → SiftSoFar (log_seen (g.H.Shelf.seen l.initial.shelf)) (log_seen (g.H.Shelf.seen l.shelf)) l.sifting logs;
  mode : IsReading (g.H.Shelf.seen l.shelf).mode;
  files : (g.H.Shelf.seen l.shelf).files ≡ (g.H.Shelf.seen l.initial.shelf).files;
  opened : (g.H.Shelf.seen l.shelf).opened ≡ (g.H.Shelf.seen l.initial.shelf).opened;
  at_open : (g.H.Shelf.seen l.shelf).faults_at_open ≡ (g.H.Shelf.seen l.initial.shelf).faults_at_open;
}

abbrev pub decreases-loop-count : goal.decreases-loop-count
decreases-loop-count g l = 2 ^ 40 - l.sifting.read
