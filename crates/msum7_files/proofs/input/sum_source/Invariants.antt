-- `sum_source`: what was read so far was fed.
use Rattle.std.proofs.Common.{◌-◌, ◌^◌, ℕ, List, []}
use Rattle.msum7_files.specs.FileFeeding.{ReadsLogs, ReadSoFar}
use Rattle.msum7_files.proofs.input.sum_source.Given as goal

-- what was read so far was fed
abbrev pub invariant-loop-count : goal.invariant-loop-count
invariant-loop-count g l =
    (logs : List (List ℕ)) → ReadsLogs l.initial.feeding logs []
    → ReadSoFar (g.I.Source.seen l.initial.input)
    (g.I.Source.seen l.input) l.feeding logs

abbrev pub decreases-loop-count : goal.decreases-loop-count
decreases-loop-count g l = 2 ^ 40 - l.feeding.read
