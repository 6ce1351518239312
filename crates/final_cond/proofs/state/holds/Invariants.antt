-- The loop of `holds`: the terms that were passed hold.
use Rattle.std.specs.Prelude.{◌↔◌}
use Rattle.std.proofs.Common.{drop}
use Rattle.final_cond.specs.States.{value_in_state}
use Rattle.final_cond.proofs.StateLaws.{AllMet}
use Rattle.final_cond.proofs.state.holds.Given as goal

-- the terms before the place hold
abbrev pub invariant-loop-term : goal.invariant-loop-term
invariant-loop-term l = AllMet (value_in_state l.state) (drop l.term-index l.cond.terms.items) ↔ AllMet (value_in_state l.state) l.cond.terms.items
