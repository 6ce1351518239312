-- The threads so far are those of as many columns.
use Rattle.litmus_text.proofs.Vocabulary.{[], column_seen, length, map, take, threads_of, ◌≡◌}
use Rattle.litmus_text.proofs.reading.whole.threads_of.Given as goal

abbrev pub invariant-loop-thread : goal.invariant-loop-thread
invariant-loop-thread l = record {
  threads : l.threads.items ≡ threads_of (record { names = []; values = l.values }) (take l.thread (map column_seen l.columns));
  count : length l.threads.items ≡ l.thread;
}
