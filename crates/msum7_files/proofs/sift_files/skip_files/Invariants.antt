-- `skip_files`: the files that the words so far name were summed.
use Rattle.std.proofs.Common.{◌≡◌}
use Rattle.diy_io.specs.Shelf.{Idle}
use Rattle.msum7_files.specs.SkipReading.{SiftedSoFar}
use Rattle.msum7_files.proofs.sift_files.skip_files.Given as goal

-- the files before this word were summed
abbrev pub invariant-loop-word : goal.invariant-loop-word
invariant-loop-word g l = record {
  so_far : SiftedSoFar (g.H.Shelf.seen l.fn.shelf) (g.H.Shelf.seen l.shelf) l.sifting l.words l.first l.word;
  mode : (g.H.Shelf.seen l.shelf).mode ≡ Idle;
  files : (g.H.Shelf.seen l.shelf).files ≡ (g.H.Shelf.seen l.fn.shelf).files;
}
