-- The law that lists that begin alike have tests of the same text is its lemma.
use Rattle.rotations_are_alike.proofs.Texts.{same_text}
use Rattle.rotations_are_alike.proofs.same_text.Goals as goal

pub returns : goal.returns
returns g c = same_text g.A.Arch.puts g.A.Arch.writing
