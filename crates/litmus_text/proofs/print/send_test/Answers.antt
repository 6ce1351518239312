-- The text of a test is its header, and then its parts.
use Rattle.litmus_text.proofs.Vocabulary.{Edges, Some, ap, header_line, sends_same, sends_stopped, sends_then, sym, test_seen, text_begins, text_from, with_line_feed}
use Rattle.litmus_text.proofs.print.send_test.Goals as goal

pub returns-in_err-send_header : goal.returns-in_err-send_header
returns-in_err-send_header g c =
    let test = test_seen c.args.test.now in
    let header = ap (λ arch. with_line_feed (header_line arch c.args.name.now)) c.NAME.ensures in
    sends_same _ _ _ _ _ _ c.from_residual.result
    (sends_stopped _ _ _ _ _ _ _ (text_from g.A.Arch.writing test (Some Edges)) _ c.from_residual.result (sends_same _ _ _ _ _ _ _ c.in_err-send_header.ensures header) c.from_residual.ensures.1)
    (sym (text_begins g.A.Arch.NAME g.A.Arch.writing c.args.name.now test))

pub returns : goal.returns
returns g c =
    let test = test_seen c.args.test.now in
    let header = ap (λ arch. with_line_feed (header_line arch c.args.name.now)) c.NAME.ensures in
    sends_same _ _ _ _ _ _ c.send_parts.result
    (sends_then _ _ _ _ _ _ _ (text_from g.A.Arch.writing test (Some Edges)) _ c.send_parts.result (sends_same _ _ _ _ _ _ _ c.in_ok-send_header.ensures header) c.send_parts.ensures)
    (sym (text_begins g.A.Arch.NAME g.A.Arch.writing c.args.name.now test))
