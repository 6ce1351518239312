-- The threads so far and the cells that are left give what the header gives.
use Rattle.litmus_text.proofs.{Vocabulary.{MAX_THREADS, cells_seen, heads_read, length, pieces_left, ◌≡◌, ◌≤◌}, TableLoops.heads_from}
use Rattle.litmus_text.proofs.reading.table.count_heads.Given as goal

abbrev pub invariant-heads : goal.invariant-heads
invariant-heads l = record {
  same : heads_from l.number l.cells.whole l.threads (pieces_left l.pieces) ≡ heads_read l.number (cells_seen l.fn.cells);
  few : l.threads ≤ MAX_THREADS;
}

abbrev pub decreases-heads : goal.decreases-heads
decreases-heads l = length (pieces_left l.pieces)
