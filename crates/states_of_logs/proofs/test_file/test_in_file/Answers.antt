-- That `test_in_file` gives the test that a file is, or why it is none.
use Rattle.states_of_logs.proofs.TestFileLaws.{test_closed}
use Rattle.states_of_logs.proofs.test_file.test_in_file.Goals as goal

pub returns-clause-file : goal.returns-clause-file
returns-clause-file g c =
    test_closed g.A.Arch.NAME g.A.Arch.writing _ _ _ _ _ _ c.closed_test.result c.in_ok-closed.ensures.file c.as_slice.ensures.value c.closed_test.ensures
