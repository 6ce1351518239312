-- That `put_name` adds a name to the entry at a place.
use Rattle.cycles_from_lines.proofs.TableLaws.{put_shown, ok_then}
use Rattle.cycles_from_lines.proofs.table.put_name.Goals as goal

pub returns-clause-put : goal.returns-clause-put
returns-clause-put c =
    ok_then c.put.result
    (λ h. put_shown c.args.table.now.items c.args.place c.index_mut.result.now _ c.args.name.now c.requires c.index_mut.ensures.value c.put.ensures.same h)
    c.put.ensures.put
