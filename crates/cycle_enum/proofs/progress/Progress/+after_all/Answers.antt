-- The first edge is read, and then the others.
use Rattle.cycle_enum.proofs.SetReading.{after_more}
use Rattle.cycle_enum.proofs.progress.Progress.+after_all.Goals as goal

pub returns-in-len1-up : goal.returns-in-len1-up
returns-in-len1-up t c inside relaxes u v are same is =
    after_more relaxes c.args.places.now inside u v c.args.ranks.now _ c.args.self c.after.result c.after_all.result are c.in-len1-up.len_at_least same c.after.ensures
    (λ w more. c.after_all.ensures inside relaxes w more are) is
