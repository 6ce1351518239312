-- The invariant of the registers of a thread.
-- Source: own.
use Rattle.std.specs.Prelude.{ℕ, ◌≤◌, List, length}

-- there are at most 32 registers, no more are taken than there are, and no more hold addresses than are taken
pub record AreWithin (count next : ℕ) (links : List (ℕ × ℕ)) : Type 0 where
  pub few : count ≤ 32
  pub taken : next ≤ count
  pub linked : length links ≤ next
