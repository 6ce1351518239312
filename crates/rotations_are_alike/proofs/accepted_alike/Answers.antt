-- The law that rotations are accepted alike is its lemma.
use Rattle.rotations_are_alike.proofs.Refused.{accepted_alike}
use Rattle.rotations_are_alike.proofs.accepted_alike.Goals as goal

pub returns : goal.returns
returns g c = accepted_alike g.A.Arch.puts
