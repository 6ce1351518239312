-- That `execution_in_file` gives the execution in a file with the verdict on it, or why there is none.
use Rattle.exec_check.proofs.CheckedFileLaws.{exec_closed}
use Rattle.exec_check.proofs.file.execution_in_file.Goals as goal

pub returns-clause-file : goal.returns-clause-file
returns-clause-file g c =
    exec_closed g.A.Arch.NAME g.A.Arch.writing c.args.test.now _ _ _ _ _ _ c.closed_execution.result c.in_ok-closed.ensures.file
    c.as_slice.ensures.value c.closed_execution.ensures
