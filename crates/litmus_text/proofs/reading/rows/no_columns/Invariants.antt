-- So far there are as many empty columns as were counted.
use Rattle.litmus_text.proofs.Vocabulary.{column_seen, map, no_columns, ◌≡◌}
use Rattle.litmus_text.proofs.reading.rows.no_columns.Given as goal

abbrev pub invariant-loop : goal.invariant-loop
invariant-loop l = map column_seen l.columns.items ≡ no_columns l.counter
