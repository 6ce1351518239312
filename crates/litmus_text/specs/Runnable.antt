-- Threads that can be run.
-- Source: own.
use Rattle.std.specs.{Prelude.{ℕ, ◌<◌, ◌≤◌, ◌^◌, ◌≡◌, true, List, All, length, map, count_by}, List.AllByRecursion}
use Rattle.relax_edges.specs.declared.kinds.Value.{Value}
use Rattle.micro_ops.specs.{declared.operation.Micro.Micro, Machines.InRange, Running.{is_load, lands}}
use Rattle.litmus_text.specs.{declared.reading.table.Placed.Placed, TestTable.Column}

-- code that can be run: its registers are the machine's, the label of each branch comes later, and there are at most 64
-- loads and fewer than 2^32 operations
pub record IsRunnable (code : List Micro) : Type 0 where
  pub in_range : All InRange code
  pub landing : lands code ≡ true
  pub few_loads : count_by is_load code ≤ 64
  pub short : length code < 2 ^ 32

-- the registers that get a first value are the machine's
abbrev pub NamesRegisters : List (ℕ × Value) → Type 0
NamesRegisters init = All (λ (named : ℕ × Value). named.0 < 32) init

-- a thread can be run, from these values on
pub record CanRun (init : List (ℕ × Value)) (code : List Micro) : Type 0 where
  pub registers : NamesRegisters init
  pub runnable : IsRunnable code

-- the registers that get a first value in any thread are the machine's
abbrev pub AllNameRegisters : List (ℕ × (ℕ × Value)) → Type 0
AllNameRegisters values = AllByRecursion (λ (v : ℕ × (ℕ × Value)). v.1.0 < 32) values

-- the operations of a column
abbrev pub ops_in : Column → List Micro
ops_in column = map (λ (placed : Placed). placed.op) column.ops

-- the code of each column can be run
abbrev pub AllRunnable : List Column → Type 0
AllRunnable columns = AllByRecursion (λ (column : Column). IsRunnable (ops_in column)) columns
