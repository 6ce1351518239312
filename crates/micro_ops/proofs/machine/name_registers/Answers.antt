-- The registers hold what the initial values name.
use Rattle.std.proofs.Common.{rules, ◌-◌, arith}
use Rattle.micro_ops.proofs.Naming.{blank_is_start, name_more}
use Rattle.micro_ops.proofs.machine.name_registers.Goals as goal

pub loop-k-init : goal.loop-k-init
loop-k-init c = blank_is_start c.args.registers.now c.args.init.now c.requires.blank

pub loop-k-preserved : goal.loop-k-preserved
loop-k-preserved c =
    name_more c.loop-k.registers c.args.init.now (c.loop-k.k - 1) c.loop-k.k c.from.result _
    (omega arith) (omega arith) (search rules) (search rules) c.loop-k.invariant
