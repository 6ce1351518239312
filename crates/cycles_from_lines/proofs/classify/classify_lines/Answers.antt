-- That `classify_lines` writes the families of all cycles of the source, or a prefix of them where the sink fails.
use Rattle.cycles_from_lines.proofs.TableLaws.{classified, classified_part}
use Rattle.cycles_from_lines.proofs.classify.classify_lines.Goals as goal

pub returns-in-Ok-write : goal.returns-in-Ok-write
returns-in-Ok-write g c =
    let given = c.in-Ok.ensures in classified c.args.arch _ _ _ _ _ given (c.in-Ok-write.ensures given.cycles given.holds).ok

pub returns-in-Ok : goal.returns-in-Ok
returns-in-Ok g c =
    let given = c.in-Ok.ensures in classified_part c.args.arch _ _ _ _ _ given (c.in-Err-write.ensures given.cycles given.holds).failed
