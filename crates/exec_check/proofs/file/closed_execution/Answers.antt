-- That `closed_execution` gives an error of the text whatever the closing of its file gave.
use Rattle.exec_check.proofs.CheckedFileLaws.{exec_wrong, exec_unclosed}
use Rattle.exec_check.proofs.file.closed_execution.Goals as goal

pub returns-in_err-judged : goal.returns-in_err-judged
returns-in_err-judged g c =
    exec_wrong g.A.Arch.NAME g.A.Arch.writing c.args.test.now _ _ c.in_err-judged.field-0.0 c.from_residual.result c.in_err-judged.ensures
    c.from_residual.ensures.1

pub returns-in_err-closed : goal.returns-in_err-closed
returns-in_err-closed g c =
    exec_unclosed g.A.Arch.NAME g.A.Arch.writing c.args.test.now _ _ c.in_err-closed.field-0.0 c.in_ok-judged.judged
    c.from_residual-in_err-closed.result c.in_ok-judged.ensures c.in_err-closed.was c.from_residual-in_err-closed.ensures.1

pub returns : goal.returns
returns g c = (c.in_ok-judged.ensures, c.in_ok-closed.was)
