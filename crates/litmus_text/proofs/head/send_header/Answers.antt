-- The pieces that are sent are the header.
use Rattle.litmus_text.proofs.Vocabulary.{arch_word, codes, header_line, sends_same, with_line_feed, ◌++◌, ◌≡◌}
use Rattle.litmus_text.proofs.head.send_header.Goals as goal

pub returns : goal.returns
unfolding header_line
returns g c =
    let names : with_line_feed (c.as_bytes.result.now ++ (codes " " ++ c.as_bytes-2.result.now))
    ≡ with_line_feed (arch_word c.args.arch ++ (codes " " ++ c.args.name.now)) = cc in
    sends_same _ _ _ _ _ _ c.send_names.result c.send_names.ensures names
