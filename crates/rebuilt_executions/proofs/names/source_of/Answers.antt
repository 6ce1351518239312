-- The write is found among all names.
use Rattle.std.proofs.Common.{Option, ap, ◌∙◌}
use Rattle.std.specs.List.{find}
use Rattle.program_meaning.specs.{declared.WriteAt.WriteAt, Accesses.at_name, Deciding.writes_value}
use Rattle.rebuilt_executions.proofs.names.source_of.Goals as goal

pub returns : goal.returns
returns c =
    let a = c.args.access.now in
    ap (λ (o : Option WriteAt). (a.value, o)) (c.find_write-write.ensures ∙ ap (find (λ w. writes_value a.place a.value (at_name c.args.all.now w))) c.requires)
