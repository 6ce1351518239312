-- That `know` makes known a name that is among the others.
use Rattle.cycles_from_lines.proofs.NameSetLaws.{known_among}
use Rattle.cycles_from_lines.proofs.names.FamilyNames.know.Goals as goal

pub invariant_of-self : goal.invariant_of-self
invariant_of-self c = record {
  known_are = known_among c.args.self.now.names _ _ c.in_ok-name.name c.args.name.now c.insert.result c.in_ok-name.ensures.ok c.requires c.insert.ensures.keys c.insert.ensures.err c.args.self.now.known_are;
}
