-- Which executions are read back from the text that is written for them.
-- Source: own.
use Rattle.std.specs.{Prelude.{◌≡◌, ◌<◌, ◌≤◌, ◌^◌, ℕ, true, List, length, Option, Some, None, Ok}, List.{All, list_all}}
use Rattle.text_parts.specs.Names.{is_place_name}
use Rattle.litmus_text.specs.declared.limits.TheConstants.{MAX_TEST_TEXT, MAX_ACCESSES}
use Rattle.program_meaning.specs.{declared.WriteAt.WriteAt, Executions.Execution}
use Rattle.exec_text.specs.{ExecutionText.execution_read, Written.text_of_execution}

-- an access that a text can name: of one of this many threads, with a number below 64
abbrev pub AccessFits : ℕ → WriteAt → Type 0
AccessFits threads w = (w.thread < threads) × (w.access < MAX_ACCESSES)

-- what is read is the initial value or such an access
abbrev pub SourceFits : ℕ → Option WriteAt → Type 0
SourceFits threads None = Unit {0}
SourceFits threads (Some w) = AccessFits threads w

-- a read that a text can name: a value of at most 32 bits, and what is read
abbrev pub ReadFits : ℕ → ℕ × Option WriteAt → Type 0
ReadFits threads r = (r.0 < 2 ^ 32) × SourceFits threads r.1

-- An execution whose text reads back: it has this many threads and an order for each location, the locations have names of the form
-- used in tests, a text can name its reads and writes, and its text is no longer than a text may be.
pub record ExecutionFits (threads : ℕ) (places : List (List ℕ)) (x : Execution) : Type 0 where
  pub thread_lists : length x.reads ≡ threads
  pub place_lists : length x.orders ≡ length places
  pub names : list_all is_place_name places ≡ true
  pub reads : All (All (ReadFits threads)) x.reads
  pub orders : All (All (AccessFits threads)) x.orders
  pub short : length (text_of_execution places x) ≤ MAX_TEST_TEXT

-- the text that is written for such an execution is read as that execution
abbrev pub ExecutionReadsBack : Type 0
ExecutionReadsBack = (threads : ℕ) (places : List (List ℕ)) (x : Execution) → ExecutionFits threads places x
    → execution_read threads places (text_of_execution places x) ≡ Ok x
