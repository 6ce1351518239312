-- The execution has one write more, or is unchanged where there is no memory.
use Rattle.std.proofs.lemmas.Result.{err_from_is_err_and}
use Rattle.program_meaning.proofs.KeptLists.{write_added, write_kept}
use Rattle.program_meaning.proofs.execution.Execution.add_write.Goals as goal

pub returns-in_err-push-clause-err : goal.returns-in_err-push-clause-err
returns-in_err-push-clause-err c =
    let kept = write_kept (λ list. list.items) _ c.from.result _ c.index_mut-writes.result.now c.push.new.self _ _ c.self.view_is c.index_mut-writes.ensures.value c.in_err-push.ensures.items in
    let p = err_from_is_err_and c.from_residual.result c.from_residual.ensures.1 in
    rw p.1 kept

pub returns-clause-ok : goal.returns-clause-ok
returns-clause-ok c =
    write_added (λ list. list.items) _ c.from.result c.args.place _ c.index_mut-writes.result.now c.push.new.self c.args.write _ _ c.self.view_is c.requires c.from.ensures c.index_mut-writes.ensures.value c.in_ok-push.ensures.items
