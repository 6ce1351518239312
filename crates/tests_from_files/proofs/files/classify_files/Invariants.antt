-- The loop of `classify_files`: which files were read so far.
use Rattle.std.proofs.Common.{◌≡◌, take}
use Rattle.diy_io.specs.Shelf.{Idle}
use Rattle.tests_from_files.proofs.FilesLaws.{FilesSoFar}
use Rattle.tests_from_files.proofs.files.classify_files.Given as goal

-- the files of the places before this one say cycles, whose names are kept
abbrev pub invariant-loop-place : goal.invariant-loop-place
invariant-loop-place g l = record {
  so_far :
      FilesSoFar (record { arch = g.A.Arch.NAME; writing = g.A.Arch.writing }) (g.H.Shelf.seen l.fn.shelf) (g.H.Shelf.seen l.shelf) l.words
      (take l.place-index l.places) l.families;
  mode : (g.H.Shelf.seen l.shelf).mode ≡ Idle;
  files : (g.H.Shelf.seen l.shelf).files ≡ (g.H.Shelf.seen l.fn.shelf).files;
}
