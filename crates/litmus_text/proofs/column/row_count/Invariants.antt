-- The longest of the columns so far gives the number of rows.
use Rattle.litmus_text.proofs.Vocabulary.{fold, length, max, take, ◌+◌, ◌≡◌}
use Rattle.litmus_text.proofs.column.row_count.Given as goal

-- the longest so far
abbrev pub invariant-loop-code : goal.invariant-loop-code
invariant-loop-code l = l.count ≡ fold (λ count code. max count (length code.instrs.items + 1)) 0 (take l.code-index l.threads)
