-- `FirstSeen::forget_from`: the texts before the index are those that were there.
use Rattle.std.proofs.Common.{◌≡◌, take, length}
use Rattle.log_sum.proofs.first_seen.FirstSeen.forget_from.Given as goal

abbrev pub invariant-loop-self : goal.invariant-loop-self
invariant-loop-self g l = take l.len l.self.entries.items ≡ take l.len l.fn.self.entries.items

abbrev pub decreases-loop-self : goal.decreases-loop-self
decreases-loop-self g l = length l.self.entries.items
