-- The loop of `value_of`: the pairs that were passed are of other left sides.
use Rattle.std.proofs.Common.{◌≡◌, map, drop}
use Rattle.final_cond.specs.{Conditions.left_view, States.value_in_state, States.pair_view}
use Rattle.final_cond.proofs.state.value_of.Given as goal

-- no pair before the place is of the left side
abbrev pub invariant-loop-other : goal.invariant-loop-other
invariant-loop-other l = value_in_state (map pair_view (drop l.other-index l.pairs)) (left_view l.left) ≡ value_in_state (map pair_view l.pairs) (left_view l.left)
