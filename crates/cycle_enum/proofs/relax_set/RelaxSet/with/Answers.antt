-- One more bit is set.
use Rattle.cycle_enum.proofs.SetPlaces.{bit_added, bit_of_first, bit_other}
use Rattle.cycle_enum.proofs.relax_set.RelaxSet.with.Goals as goal

pub returns-clause-added : goal.returns-clause-added
returns-clause-added c = bit_added c.args.self.bits c.args.relax c.requires

pub returns-clause-kept : goal.returns-clause-kept
returns-clause-kept c i h = bit_of_first c.args.self.bits _ i h

pub returns-clause-other : goal.returns-clause-other
returns-clause-other c i h = bit_other c.args.self.bits c.args.relax i c.requires h
