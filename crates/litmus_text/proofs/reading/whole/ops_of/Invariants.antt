-- The operations so far are those of the column.
use Rattle.litmus_text.proofs.Vocabulary.{map, take, ◌≡◌}
use Rattle.litmus_text.proofs.reading.whole.ops_of.Given as goal

abbrev pub invariant-loop-placed : goal.invariant-loop-placed
invariant-loop-placed l = l.code.items ≡ map (λ placed. placed.op) (take l.placed-index l.ops)
