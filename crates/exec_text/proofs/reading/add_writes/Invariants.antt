-- What holds in the loop over the words of a place's line.
use Rattle.std.proofs.Common.{◌≡◌, ◌<◌, length}
use Rattle.text_parts.specs.Words.{words}
use Rattle.program_meaning.specs.KeptExecutions.{with_write}
use Rattle.exec_text.specs.{declared.errors.ExecKind.TheVariants.BadWrite, ExecutionText.{access_named, all_named}, ExecutionSteps.line_added}
use Rattle.exec_text.proofs.reading.add_writes.Given as goal

abbrev pub invariant-loop-word : goal.invariant-loop-word
invariant-loop-word l =
    (l.place < length l.exec.orders)
    × (line_added with_write l.exec l.place (all_named BadWrite (access_named l.threads) (words l.left))
    ≡ line_added with_write l.fn.exec l.fn.place (all_named BadWrite (access_named l.fn.threads) (words l.fn.text)))

abbrev pub decreases-loop-word : goal.decreases-loop-word
decreases-loop-word l = length (words l.left)
