-- The law that rotations are refused for reasons of the same kind is its lemma.
use Rattle.rotations_are_alike.proofs.Refused.{refused_alike}
use Rattle.rotations_are_alike.proofs.refused_alike.Goals as goal

pub returns : goal.returns
returns g c = refused_alike g.A.Arch.puts
