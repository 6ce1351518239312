-- The architectures as the tools use them: the code of each, and how it is written.
-- Source: own.
use Rattle.relax_edges.specs.declared.kinds.ArchName.{ArchName}
use Rattle.relax_edges.specs.declared.kinds.ArchName.TheVariants as archs
use Rattle.arch_trait.specs.{Threads.Puts, Writing.Writing}
use Rattle.arch_x86.specs.Puts as x86
use Rattle.arch_x86.specs.Table as x86_table
use Rattle.arch_power.specs.Puts as power
use Rattle.arch_power.specs.Table as power_table
use Rattle.arch_aarch64.specs.Puts as aarch64
use Rattle.arch_aarch64.specs.Table as aarch64_table
use Rattle.arch_riscv.specs.Puts as riscv
use Rattle.arch_riscv.specs.Table as riscv_table
use Rattle.arch_arm.specs.Puts as arm
use Rattle.arch_arm.specs.Table as arm_table

-- an architecture: the code of its accesses, and how this code is written
pub record Machine : Type 0 where
  pub puts : Puts
  pub writing : Writing

-- an architecture from its code and its writing
abbrev pub machine : Puts → Writing → Machine
machine puts writing = record { puts = puts; writing = writing }

-- the architecture with this name
abbrev pub machine_of : ArchName → Machine
machine_of archs.X86 = machine x86.puts x86_table.writing
machine_of archs.PPC = machine power.puts power_table.writing
machine_of archs.AArch64 = machine aarch64.puts aarch64_table.writing
machine_of archs.RISCV = machine riscv.puts riscv_table.writing
machine_of archs.ARM = machine arm.puts arm_table.writing
