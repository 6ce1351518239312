-- What is left without the last edge is joined as the whole was, and its ranks, repeats and crossings are beside it.
use Rattle.cycle_enum.proofs.{Composing.joined_before, Crossings.crossings_popped, Ranking.ranks_popped, Repeating.repeats_popped}
use Rattle.cycle_enum.proofs.prefix.Prefix.pop.Goals as goal

pub invariant_of-self-2 : goal.invariant_of-self-2
invariant_of-self-2 c = (
  ranks_popped _ _ _ _ c.self.invariant.0 c.pop.ensures.rest c.pop-2.ensures.rest,
  joined_before _ _ _ c.pop.ensures.rest c.self.invariant.1,
  repeats_popped _ _ c.self.invariant.2 _ _ c.pop.ensures.rest c.pop-3.ensures.rest,
  crossings_popped _ _ _ _ c.self.invariant.3 c.pop.ensures.rest c.pop-4.ensures.rest,
)
