-- That `closed_test` gives an error of the text whatever the closing of its file gave.
use Rattle.exec_check.proofs.CheckedFileLaws.{test_wrong, test_unclosed}
use Rattle.exec_check.proofs.file.closed_test.Goals as goal

pub returns-in_err-test : goal.returns-in_err-test
returns-in_err-test g c =
    test_wrong g.A.Arch.NAME g.A.Arch.writing _ _ c.in_err-test.field-0.0 c.from_residual.result c.in_err-test.ensures c.from_residual.ensures.1

pub returns-in_err-closed : goal.returns-in_err-closed
returns-in_err-closed g c =
    test_unclosed g.A.Arch.NAME g.A.Arch.writing _ _ c.in_err-closed.field-0.0 c.in_ok-test.test c.from_residual-in_err-closed.result
    c.in_ok-test.ensures c.in_err-closed.was c.from_residual-in_err-closed.ensures.1

pub returns : goal.returns
returns g c = (c.in_ok-test.ensures, c.in_ok-closed.was)
