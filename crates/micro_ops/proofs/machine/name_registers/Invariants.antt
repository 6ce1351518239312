-- In the loop over the initial values, from the last: the registers hold those from this one on.
use Rattle.std.proofs.Common.{◌≡◌, drop}
use Rattle.micro_ops.specs.{Machines.held_by_register, Running.starting}
use Rattle.micro_ops.proofs.machine.name_registers.Given as goal

abbrev pub invariant-loop-k : goal.invariant-loop-k
invariant-loop-k l = held_by_register l.registers ≡ starting (drop l.k l.init)
