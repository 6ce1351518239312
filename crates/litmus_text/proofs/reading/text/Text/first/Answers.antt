-- The first line of a text ends at its first line feed, or with the text.
use Rattle.litmus_text.proofs.{Vocabulary.{ap, arith, cut_length, line_kept, lines_from, sym, ◌+◌, ◌∙◌}, LineLaws.{line_cut, line_last}}
use Rattle.litmus_text.proofs.reading.text.Text.first.Goals as goal

pub invariant_of-result : goal.invariant_of-result
invariant_of-result c =
    let e = cut_length 10 c.args.self.bytes.now c.in-Some.line.now c.in-Some.bytes.now c.in-Some.ensures.parts in
    let f = c.args.self.fits in
    record { fits = omega arith }

pub returns-in-Some-clause-line : goal.returns-in-Some-clause-line
returns-in-Some-clause-line c =
    line_cut c.args.self.number c.args.self.bytes.now c.in-Some.line.now c.in-Some.bytes.now c.in-Some.ensures.parts
    ∙ ap (λ t. line_kept c.args.self.number t (lines_from (c.args.self.number + 1) c.in-Some.bytes.now)) (sym c.without_return.ensures)

pub returns-in-Some-clause-shorter : goal.returns-in-Some-clause-shorter
returns-in-Some-clause-shorter c =
    let e = cut_length 10 c.args.self.bytes.now c.in-Some.line.now c.in-Some.bytes.now c.in-Some.ensures.parts in
    omega arith

pub returns-in-None-clause-line : goal.returns-in-None-clause-line
returns-in-None-clause-line c = line_last c.args.self.number c.args.self.bytes.now c.requires c.in-None.ensures.parts
