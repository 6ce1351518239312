-- A left side that was read has its form.
use Rattle.litmus_text.proofs.{Vocabulary.{left_view, unblanked}, ItemLaws.left_form}
use Rattle.litmus_text.proofs.reading.terms.read_term.Goals as goal

pub put_left-requires : goal.put_left-requires
put_left-requires g c = left_form (unblanked c.args.text.now) (left_view c.in-Ok.left.0) c.in-Ok.left.1.now c.in-Ok.ensures
