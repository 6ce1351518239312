-- The bits of two numbers together.
use Rattle.cycle_enum.proofs.SetPlaces.{bit_of_both, bit_of_each}
use Rattle.cycle_enum.proofs.relax_set.RelaxSet.common.Goals as goal

pub returns-clause-both : goal.returns-clause-both
returns-clause-both c i one two = bit_of_both c.args.self.bits c.args.other.bits i one two

pub returns-clause-each : goal.returns-clause-each
returns-clause-each c i h = bit_of_each c.args.self.bits c.args.other.bits i h
