-- The part of the edges is their line and the opening brace.
use Rattle.litmus_text.specs.declared.parts.TextPart.TheVariants as parts
use Rattle.litmus_text.proofs.{Vocabulary.{PutsPart, Some, ap, codes, edges_line, subst, sym, test_seen, with_line_feed, ◌++◌}, TextParts.edges_put}
use Rattle.litmus_text.proofs.parts.put_part.Goals as goal

pub returns-in-Edges : goal.returns-in-Edges
returns-in-Edges g c =
    let edges = ap (λ edges. with_line_feed (edges_line edges) ++ codes "{\n") (sym c.as_slice.ensures.value) in
    subst (λ part. PutsPart g.A.Arch.writing (test_seen c.args.test.now) part c.args.page.now c.print_opening.new.page (Some (parts.Items 0))) (sym c.in-Edges.is)
    (edges_put g.A.Arch.writing (test_seen c.args.test.now) c.args.page.now c.print_opening.new.page _ edges c.print_opening.ensures.text c.print_opening.ensures.short)
