-- An item has room.
use Rattle.litmus_text.proofs.{Vocabulary.{ap, arith, length}, ItemText.item_short}
use Rattle.litmus_text.proofs.initial.print_item.Goals as goal

pub returns-clause-short : goal.returns-clause-short
returns-clause-short g c =
    item_short g.A.Arch.writing c.args.places.now c.args.i c.args.thread c.args.link (omega arith)
    (omega (arith, ap length c.register_name.ensures, ap length c.as_str.ensures.value, c.as_str.ensures.fits))
    (omega (arith, ap length c.get.ensures, ap length c.as_str-2.ensures.value, c.as_str-2.ensures.fits))
