-- A test is its header, its quoted text, and its body.
use Rattle.litmus_text.proofs.{Vocabulary.{ap, header_read, sym, text_left, ◌∙◌}, PartLoops.lines_body}
use Rattle.litmus_text.proofs.reading.whole.read_lines.Goals as goal

pub returns : goal.returns
returns g c =
    rw (lines_body g.A.Arch.NAME g.A.Arch.writing (text_left c.args.text) (text_left c.in_ok-name.text) (text_left c.in_ok-quoted.text) (text_left c.after_settings.result) c.in_ok-name.name.now _
    (ap (λ x. header_read x (text_left c.args.text)) (sym c.NAME.ensures) ∙ c.in_ok-name.ensures) c.in_ok-quoted.ensures c.after_settings.ensures)
    c.read_body.ensures
