-- In the loop over the locations: the values of those before this one.
use Rattle.std.proofs.Common.{◌≡◌, map}
use Rattle.list_laws.specs.Numbers.{upto}
use Rattle.final_cond.specs.Conditions.{term_view}
use Rattle.state_verdicts.specs.StateParts.{end_given}
use Rattle.state_verdicts.proofs.places.ends_given.Given as goal

abbrev pub invariant-loop-place : goal.invariant-loop-place
invariant-loop-place l = l.ends.items ≡ map (end_given l.places (map term_view l.state.terms.items)) (upto l.place)
