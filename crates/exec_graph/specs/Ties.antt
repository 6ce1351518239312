-- What the code of a thread has before an access of it.
-- Source: own.
use Rattle.std.specs.Prelude.{ℕ, ◌+◌, ◌-◌, ◌==◌, cond, List, [], Option, Some, None}
use Rattle.micro_ops.specs.declared.operation.Item.{Item}
use Rattle.micro_ops.specs.declared.operation.Item.TheVariants as items
use Rattle.program_meaning.specs.Accesses.{Barred, Visit, reads_by}
use Rattle.exec_graph.specs.declared.ties.Counted.{Counted}

-- the barriers between an access and the one before it, and the loads that its address, its data and the branches before it depend on.
-- Bit k of a mask names load number k of the thread, from 0
pub record Ties : Type 0 where
  pub barriers : List Barred
  pub address_mask : ℕ
  pub data_mask : ℕ
  pub control_mask : ℕ

-- nothing comes before an access, and it depends on no load
abbrev pub untied : Ties
untied = record { barriers = []; address_mask = 0; data_mask = 0; control_mask = 0 }

-- what comes before an access
abbrev pub ties_of : Visit → Ties
ties_of visit = record {
  barriers = visit.barriers;
  address_mask = visit.address_mask;
  data_mask = visit.data_mask;
  control_mask = visit.control_mask;
}

-- what comes before an access, if there is the access
abbrev pub ties_if : Option Visit → Ties
ties_if None = untied
ties_if (Some visit) = ties_of visit

-- a count of the loads among the first accesses of a run, after one more item. Only private functions cite this
abbrev pub with_item : Counted → Item → Counted
with_item so_far (items.Barrier kind control) = so_far
with_item so_far (items.Access dir mark place value a d c) =
    cond (so_far.left == 0) so_far (record { loads = so_far.loads + cond (reads_by dir) 1 0; left = so_far.left - 1 })
