-- `opens_block` looks at the first letters of a line before its words.
use Rattle.std.proofs.Common.{sym, ◌∙◌}
use Rattle.std.proofs.{lemmas.Bool.Decides.Decides-eqb, lemmas.Slice.Eq.starts_is}
use Rattle.std.specs.{Prelude.codes, Option.is_some}
use Rattle.list_laws.proofs.Cases.{by_test}
use Rattle.text_parts.specs.{Words.words}
use Rattle.log_sum.specs.LogLines.{test_line}
use Rattle.log_sum.proofs.OpeningLaws.{opening_text}
use Rattle.log_sum.proofs.lines.opens_block.Goals as goal

pub returns-else-starts_with : goal.returns-else-starts_with
returns-else-starts_with c =
    by_test (is_some (test_line (words c.args.line.now)))
    (λ o.
    let begins = opening_text c.args.line.now o in
    (starts_is Decides-eqb c.without_blanks.result.now (codes "Test") c.starts_with.result c.starts_with.ensures.value).1 begins.rest (c.without_blanks.ensures.text ∙ begins.is) ∙ sym o)
    (λ o. c.if-starts_with.false ∙ sym o)
