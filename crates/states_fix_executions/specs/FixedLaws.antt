-- The laws of states that fix an execution.
use Rattle.std.specs.Prelude.{◌≡◌}
use Rattle.program_meaning.specs.{Executions.Execution, Programs.{Program, IsCandidate}, Interleavings.accesses_on}
use Rattle.states_fix_executions.specs.{States.{FinalState, EndsIn, HasVerdict, WriteWithin}, Rebuilt.{Fixes, HaveOwnValues, rebuilt, verdict_looked}}

-- where the writes have their own values, a state fixes all reads: candidates that end in it read the same
abbrev pub ReadsAreFixed : Type 0
ReadsAreFixed =
    (p : Program) (s : FinalState) (x y : Execution) → HaveOwnValues (accesses_on p s.loads) → IsCandidate p x → EndsIn p s x →
    IsCandidate p y → EndsIn p s y → x.reads ≡ y.reads

-- where the order of each location is settled too, it fixes the execution: at most one candidate ends in it
abbrev pub ExecutionIsFixed : Type 0
ExecutionIsFixed =
    (p : Program) (s : FinalState) (x y : Execution) → Fixes p s → IsCandidate p x → EndsIn p s x → IsCandidate p y → EndsIn p s y → x ≡ y

-- that one is the rebuilt execution
abbrev pub OnlyTheRebuilt : Type 0
OnlyTheRebuilt = (p : Program) (s : FinalState) (x : Execution) → Fixes p s → IsCandidate p x → EndsIn p s x → x ≡ rebuilt p s

-- so the verdict is found by looking at the rebuilt execution alone
abbrev pub RebuiltDecides : Type 0
RebuiltDecides =
    (p : Program) (s : FinalState) → Fixes p s → WriteWithin p (EndsIn p s) →
    HasVerdict p (EndsIn p s) (verdict_looked p s (rebuilt p s))

-- and wherever at most one candidate ends in a state, by looking at that one alone
abbrev pub LookingDecides : Type 0
LookingDecides =
    (p : Program) (s : FinalState) (y : Execution) → ((x : Execution) → IsCandidate p x → EndsIn p s x → x ≡ y) → WriteWithin p (EndsIn p s) →
    HasVerdict p (EndsIn p s) (verdict_looked p s y)
