-- In the loop over the threads: the values so far, before those of the threads that are left.
use Rattle.std.proofs.Common.{◌≡◌, drop, map}
use Rattle.final_cond.specs.Conditions.{cond_view}
use Rattle.arch_trait.specs.PlaceNames.{number_in}
use Rattle.state_verdicts.specs.StateParts.{loads_from}
use Rattle.state_verdicts.proofs.LoadLists.{before}
use Rattle.state_verdicts.proofs.loads.all_loads.Given as goal

abbrev pub invariant-loop-thread : goal.invariant-loop-thread
invariant-loop-thread g l =
    loads_from (number_in g.A.Arch.writing.registers) (cond_view l.state).terms 0 l.test.threads
    ≡ before (map (λ list. list.items) l.loads.items) (loads_from (number_in g.A.Arch.writing.registers) (cond_view l.state).terms l.thread (drop l.thread l.test.threads))
