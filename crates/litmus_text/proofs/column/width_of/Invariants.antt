-- The walk over the rows keeps the cells of a column and finds the widest.
use Rattle.litmus_text.proofs.{Vocabulary.{column_of, take, thread_code_of, ◌++◌, ◌≡◌, ◌≤◌}, TableLaws.widest}
use Rattle.litmus_text.proofs.column.width_of.Given as goal

-- the widest of the texts so far, which are kept
abbrev pub invariant-loop-row : goal.invariant-loop-row
invariant-loop-row g l = record {
  widest : l.width ≡ widest (take l.row (column_of g.A.Arch.writing l.places (l.thread, thread_code_of l.code)));
  short : l.width ≤ 40;
  kept : l.cells ≡ take 128 (l.fn.cells ++ take l.row (column_of g.A.Arch.writing l.places (l.thread, thread_code_of l.code)));
}
