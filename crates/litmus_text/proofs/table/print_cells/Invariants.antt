-- The walk over the threads appends their cells of a row.
use Rattle.litmus_text.proofs.{Vocabulary.{CELL_ROOM, all_texts, cell_text, codes, columns_of, length, map, take, thread_code_of, ◌*◌, ◌≡◌, ◌≤◌}, JoinLaws.Put}
use Rattle.litmus_text.proofs.table.print_cells.Given as goal

-- the cells so far are appended, and the next column begins at its place
abbrev pub invariant-loop-thread : goal.invariant-loop-thread
invariant-loop-thread g l = record {
  put : Put (cell_text l.row) (codes " | ") CELL_ROOM l.fn.page l.page (columns_of g.A.Arch.writing l.places (map thread_code_of l.threads)) l.thread;
  first : l.first ≡ length (all_texts (take l.thread (columns_of g.A.Arch.writing l.places (map thread_code_of l.threads))));
  near : l.first ≤ 289 * l.thread;
}
