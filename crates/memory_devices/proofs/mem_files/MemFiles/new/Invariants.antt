-- The loop of `new`: what files to come are made so far.
use Rattle.std.proofs.Common.{◌≡◌, All, vec_len}
use Rattle.memory_devices.specs.MemEntries.{IsSpare}
use Rattle.memory_devices.proofs.mem_files.MemFiles.new.Given as goal

-- so many files to come are made
abbrev pub invariant-loop : goal.invariant-loop
invariant-loop l = record {
  to_come : All (IsSpare l.room) l.spare.items;
  count : vec_len l.spare ≡ l.counter;
}
