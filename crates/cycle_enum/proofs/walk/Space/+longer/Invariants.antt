-- The search by length ends, since the length grows with each step.
use Rattle.std.proofs.Common.{◌-◌}
use Rattle.relax_edges.specs.declared.TheConstants.{MAX_EDGES}
use Rattle.cycle_enum.proofs.walk.Space.+longer.Given as goal

abbrev pub decreases-longer : goal.decreases-longer
decreases-longer g l = MAX_EDGES - l.len
