-- In the loop: there is an empty list for each of those before this one.
use Rattle.std.proofs.Common.{◌≡◌, map, length}
use Rattle.program_meaning.specs.KeptExecutions.{empty_lists}
use Rattle.program_meaning.proofs.execution.no_lists.Given as goal

abbrev pub invariant-loop : goal.invariant-loop
invariant-loop g l = record {
  lists : map (λ list. list.items) l.lists.items ≡ empty_lists l.counter;
  count : length l.lists.items ≡ l.counter;
}
