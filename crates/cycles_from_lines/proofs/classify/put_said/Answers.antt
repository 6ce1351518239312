-- That `put_said` adds nothing where a line has no cycle.
use Rattle.cycles_from_lines.proofs.TableLaws.{adds_none}
use Rattle.cycles_from_lines.proofs.classify.put_said.Goals as goal

pub returns-in-None : goal.returns-in-None
returns-in-None c = adds_none c.args.families.now c.args.cycle.now c.in-None.is
