-- The pieces that are sent are the architecture, a blank, the name and a line feed.
use Rattle.litmus_text.proofs.Vocabulary.{ap, append_assoc, codes, sends_same, ◌++◌}
use Rattle.litmus_text.proofs.head.send_names.Goals as goal

pub returns : goal.returns
returns g c =
    sends_same _ _ _ _ _ _ c.send_pieces.result c.send_pieces.ensures (ap (λ t. t ++ codes "\n") (append_assoc c.args.arch.now (codes " ") c.args.name.now))
