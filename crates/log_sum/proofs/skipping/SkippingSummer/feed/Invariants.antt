-- `SkippingSummer::feed`: the bytes of the piece that come before the rest were fed.
use Rattle.std.proofs.Common.{length}
use Rattle.log_sum.specs.Sieving.{FedPieces}
use Rattle.log_sum.proofs.skipping.SkippingSummer.feed.Given as goal

abbrev pub decreases-loop-prefix : goal.decreases-loop-prefix
decreases-loop-prefix l = length l.rest

-- the bytes before the rest were fed
abbrev pub invariant-loop-prefix : goal.invariant-loop-prefix
invariant-loop-prefix l = FedPieces l.fn.self l.self l.piece l.rest
