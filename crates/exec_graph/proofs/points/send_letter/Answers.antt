-- The pieces are the letter.
use Rattle.std.proofs.Common.{◌≡◌, ◌+◌, ◌%◌, ◌∷◌, [], arith}
use Rattle.diy_io.specs.PageLaws.{sends_same}
use Rattle.exec_graph.proofs.SentLines.{letter_is}
use Rattle.exec_graph.proofs.points.send_letter.Goals as goal

pub returns : goal.returns
returns g c =
    let letter : c.as_slice.result.now ≡ (97 + c.args.number % 26) ∷ [] = grind (arith, c.as_slice.ensures) in
    sends_same _ _ _ _ _ _ c.send_pieces.result c.send_pieces.ensures (letter_is c.args.number _ _ letter c.lap_word-lap.ensures)
