-- The walk over the columns keeps their cells and widths.
use Rattle.litmus_text.proofs.Vocabulary.{All, all_texts, columns_of, map, take, thread_code_of, width_of, ◌≡◌, ◌≤◌}
use Rattle.litmus_text.proofs.column.set_widths.Given as goal

-- the widths so far, and the cells of these columns are kept
abbrev pub invariant-loop-thread : goal.invariant-loop-thread
invariant-loop-thread g l = record {
  widths : l.widths.items ≡ map width_of (take l.thread (columns_of g.A.Arch.writing l.places (map thread_code_of l.threads)));
  kept : l.cells ≡ take 128 (all_texts (take l.thread (columns_of g.A.Arch.writing l.places (map thread_code_of l.threads))));
  short : All (λ width. width ≤ 40) l.widths.items;
}
