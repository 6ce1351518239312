-- The code of an access makes one access, on architectures whose accesses name a register with the address.
use Rattle.std.proofs.Common.{arith}
use Rattle.arch_trait.specs.{Cells.MakesOneAccess, Addressed.Instructions, Addressed.puts_of}
use Rattle.arch_trait.proofs.AddressedInstructions.{KeepsInstructions}

-- the code of an access has one access
pub accesses_once : (own : Instructions) → KeepsInstructions own → MakesOneAccess (puts_of own)
accesses_once own keeps = grind arith
