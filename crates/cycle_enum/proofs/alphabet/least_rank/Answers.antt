-- The rank of the first edge is a rank.
use Rattle.cycle_enum.proofs.EdgesPassedOver.{first_below}
use Rattle.cycle_enum.proofs.alphabet.least_rank.Goals as goal

pub returns-in-len1-up-clause-within : goal.returns-in-len1-up-clause-within
returns-in-len1-up-clause-within c = first_below c.args.list.now c.ranks.result.now c.ranks.ensures
