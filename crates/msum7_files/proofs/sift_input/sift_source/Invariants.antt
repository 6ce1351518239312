-- `sift_source`: what was read so far was fed.
use Rattle.std.proofs.Common.{◌-◌, ◌^◌, ℕ, List, []}
use Rattle.msum7_files.specs.SkipReading.{SiftsLogs, SiftSoFar}
use Rattle.msum7_files.proofs.sift_input.sift_source.Given as goal

-- what was read so far was fed
abbrev pub invariant-loop-count : goal.invariant-loop-count
invariant-loop-count g l =
    (logs : List (List ℕ)) → SiftsLogs l.initial.sifting logs []
    → SiftSoFar (g.I.Source.seen l.initial.input)
    (g.I.Source.seen l.input) l.sifting logs

abbrev pub decreases-loop-count : goal.decreases-loop-count
decreases-loop-count g l = 2 ^ 40 - l.sifting.read
