-- The number was appended as many times as were counted.
use Rattle.litmus_text.proofs.Vocabulary.{replicate, ◌++◌, ◌≡◌}
use Rattle.litmus_text.proofs.reading.joined.push_times.Given as goal

abbrev pub invariant-loop : goal.invariant-loop
invariant-loop l = l.numbers.items ≡ l.fn.numbers.items ++ replicate l.counter l.number
