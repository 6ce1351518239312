-- `shelf_of`: the shelf is idle between the files that are put on it.
use Rattle.std.proofs.Common.{◌≡◌}
use Rattle.diy_io.specs.Shelf.{Idle}
use Rattle.check_rows.proofs.call.shelf_of.Given as goal

abbrev pub invariant-loop-block : goal.invariant-loop-block
invariant-loop-block l = l.shelf.mode ≡ Idle
