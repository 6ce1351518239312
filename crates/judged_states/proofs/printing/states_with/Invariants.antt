-- `states_with`: the states so far are counted.
use Rattle.std.proofs.Common.{◌≡◌, map}
use Rattle.std.specs.Prelude.{take}
use Rattle.judged_states.specs.{JudgedStates.judged_view, JudgedText.states_with}
use Rattle.judged_states.proofs.printing.states_with.Given as goal

-- their number
abbrev pub invariant-loop-state : goal.invariant-loop-state
invariant-loop-state l = l.number ≡ states_with l.fn.verdict (map judged_view (take l.state-index l.fn.judged))
