-- The loop of `put_threads`: the threads before that of the next event are made, and the accesses of this one so far are known.
use Rattle.std.proofs.Common.{◌≡◌, ◌≤◌, ◌+◌, length, map}
use Rattle.arrayvec.specs.ArrayVec.{array_vec_len}
use Rattle.final_cond.specs.Conditions.{term_view}
use Rattle.cycle_events.specs.Resolution.{thread_of}
use Rattle.arch_trait.specs.{Codes.thread_code_of, Writing.name_in}
use Rattle.co_tests.specs.CoherenceTests.{coherence_steps}
use Rattle.test_maker.proofs.Growing.{Grown}
use Rattle.co_tests.proofs.ThreadSteps.{steps_so_far}
use Rattle.co_tests.proofs.threads.put_threads.Given as goal

abbrev pub invariant-loop-i : goal.invariant-loop-i
invariant-loop-i g l = record {
  thread : l.thread ≡ thread_of l.edges l.i;
  steps : l.steps.items ≡ steps_so_far l.edges l.thread l.i;
  grown :
      Grown g.A.Arch.puts (name_in g.A.Arch.writing.registers) (coherence_steps l.edges) l.thread (map thread_code_of l.threads.items)
      (map term_view l.fn.cond.terms.items) (map term_view l.cond.terms.items);
  quantifier : l.cond.quantifier ≡ l.fn.cond.quantifier;
  room : array_vec_len l.cond.terms + length l.steps.items ≤ l.i + 1;
}
