-- The runs of a test's threads, if they end.
-- Source: own.
use Rattle.std.specs.Prelude.{◌≡◌, false, List, [], ◌∷◌, map, Option, Some, None}
use Rattle.micro_ops.specs.{declared.operation.Item.Item, Running.{Outcome, Ended}, RunThreads.{EndedRun, value_in_run}}
use Rattle.micro_ops.specs.declared.operation.Item.TheVariants as items
use Rattle.program_meaning.specs.{Accesses.Access, Deciding.{has_ended, all_ended}}

-- the outcome of a run that ended
abbrev pub ended_run : EndedRun → Outcome
ended_run run = Ended run.items (value_in_run run)

-- an outcome is that of this run; without a run, it is one that didn't end
abbrev pub IsRun : Option EndedRun → Outcome → Type 0
IsRun (Some trace) run = run ≡ ended_run trace
IsRun None run = has_ended run ≡ false

-- there is an outcome, and it is that of this run; without a run, it is one that didn't end
abbrev pub IsRunIn : Option EndedRun → Option Outcome → Type 0
IsRunIn trace None = ⊥
IsRunIn trace (Some run) = IsRun trace run

-- the outcomes are those of these runs; without runs, not all of them ended
abbrev pub AreEndedRuns : Option (List EndedRun) → List Outcome → Type 0
AreEndedRuns (Some traces) runs = runs ≡ map ended_run traces
AreEndedRuns None runs = all_ended runs ≡ false

-- the access that an item is, as a list; a barrier gives none
abbrev pub item_access : Item → List Access
item_access (items.Access dir _ place value _ _ _) = (record { dir = dir; place = place; value = value }) ∷ []
item_access (items.Barrier _ _) = []
