-- What is sent by way of an empty page is what the sink takes.
use Rattle.litmus_text.proofs.Vocabulary.{sends_of, sent_wrote, unsent_wrote}
use Rattle.litmus_text.proofs.print.print_test_by.Goals as goal

pub returns-in_err-send_test-clause-wrote : goal.returns-in_err-send_test-clause-wrote
returns-in_err-send_test-clause-wrote g c =
    unsent_wrote _ _ _ _ _ _ c.from_residual.result (sends_of _ _ _ _ _ _ c.requires.empty c.in_err-send_test.ensures) c.from_residual.ensures.1

pub returns-clause-wrote : goal.returns-clause-wrote
returns-clause-wrote g c =
    sent_wrote _ _ _ _ _ c.flush.result (sends_of _ _ _ _ _ _ c.requires.empty c.in_ok-send_test.ensures).ok c.flush.ensures.wrote
