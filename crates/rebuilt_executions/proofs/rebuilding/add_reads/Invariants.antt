-- In the loop over the accesses of a thread: with the reads that are left, the execution has all.
use Rattle.std.proofs.Common.{◌≡◌, drop, map}
use Rattle.std.specs.List.{filter}
use Rattle.program_meaning.specs.Accesses.{is_read}
use Rattle.states_fix_executions.specs.Rebuilt.{source_by_value}
use Rattle.rebuilt_executions.specs.Growing.{with_reads}
use Rattle.rebuilt_executions.proofs.rebuilding.add_reads.Given as goal

abbrev pub invariant-loop-access : goal.invariant-loop-access
invariant-loop-access l =
    with_reads l.exec l.thread (map (source_by_value l.all) (filter is_read (drop l.access-index l.accesses)))
    ≡ with_reads l.fn.exec l.thread (map (source_by_value l.all) (filter is_read l.accesses))
