-- The first piece is what comes before the first sign, or the whole text.
use Rattle.litmus_text.proofs.{Vocabulary.{ap, pieces_if, sym, ◌∙◌, ◌∷◌}, CutLaws.pieces_cut, CutBack.piece_last}
use Rattle.litmus_text.proofs.reading.cuts.Pieces.first.Goals as goal

pub returns-in-Some : goal.returns-in-Some
returns-in-Some c =
    ap (pieces_if c.args.self.sign) c.in_ok-text.was ∙ pieces_cut c.args.self.sign c.in_ok-text.text.now c.in-Some.piece.now c.in-Some.remainder.now c.in-Some.ensures.parts
    ∙ ap (λ ps. c.in-Some.piece.now ∷ ps) (sym c.new.ensures)

pub returns-in-None : goal.returns-in-None
returns-in-None c = ap (pieces_if c.args.self.sign) c.in_ok-text.was ∙ piece_last c.args.self.sign c.in_ok-text.text.now c.in-None.ensures.parts
