-- A text is copied between ` | ` and blanks.
use Rattle.litmus_text.proofs.{Vocabulary.{ap, arith, length, ◌+◌, ◌-◌, ◌∙◌}, CellLaws.{copied_text, copied_whole}}
use Rattle.litmus_text.proofs.cell.PaddedCell.set.Goals as goal

pub invariant_of-self : goal.invariant_of-self
invariant_of-self c = record {
  short = omega (arith, ap length c.as_bytes-text.ensures.value, c.as_str.ensures.fits);
  filled = copied_whole c.as_bytes-text.result.now _ (3 + length c.as_bytes-text.result.now - 3) c.copy_from_slice.ensures.after (omega arith);
}

pub returns : goal.returns
returns c = copied_text c.as_bytes-text.result.now _ _ c.copy_from_slice.ensures.after ∙ c.as_bytes-text.ensures.value ∙ c.as_str.ensures.value
