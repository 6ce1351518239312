-- `FirstSeen::new` gives no texts, and their indices.
use Rattle.log_sum.proofs.TextPlaceLaws.{none_apart, none_placed}
use Rattle.log_sum.proofs.first_seen.FirstSeen.new.Goals as goal

pub invariant_of-result : goal.invariant_of-result
invariant_of-result g c = record {
  are_apart = none_apart c.new.result.items c.new.ensures.items;
  are_placed = none_placed c.new.result.items c.new-2.result.entries c.new.ensures.items c.new-2.ensures.empty;
}
