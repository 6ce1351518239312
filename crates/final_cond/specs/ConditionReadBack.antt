-- The conditions whose text reads back.
use Rattle.std.specs.{Prelude.{◌≡◌, ◌^◌, ◌<◌, ◌≤◌, true, length}, List.AllByRecursion}
use Rattle.final_cond.specs.{declared.cond.TheConstants.MAX_TERMS, Conditions.{TermSeen, CondSeen}, ConditionReading.has_form}

-- a term on a register of a thread below 64 or on a location, with a name of its form and a value of at most 32 bits
pub record IsFormedTerm (term : TermSeen) : Type 0 where
  pub form : has_form term.left ≡ true
  pub value : term.value < 2 ^ 32

-- a condition of 1 to `MAX_TERMS` such terms
pub record IsFormedCondition (condition : CondSeen) : Type 0 where
  pub some : 0 < length condition.terms
  pub few : length condition.terms ≤ MAX_TERMS
  pub terms : AllByRecursion IsFormedTerm condition.terms
