-- The first edge that joins what the slot joins, with the word, is the link, and without one there is no link.
use Rattle.std.proofs.Common.{sym, ◌∙◌, arith}
use Rattle.cycle_names.proofs.NameSteps.{link_found, link_at, link_missing, link_seen}
use Rattle.cycle_names.proofs.read.link_with.Goals as goal

pub returns-then-is_link : goal.returns-then-is_link
returns-then-is_link c = grind (arith, link_found, link_seen)

pub loop-rank-preserved : goal.loop-rank-preserved
loop-rank-preserved c =
    link_at _ _ c.at_rank-edge.result c.args.word.now c.loop-rank.rank c.at_rank-edge.ensures
    (sym (link_seen c.args.slot _ _ c.args.word.now c.at_rank-edge.result c.source-from.ensures c.target-to.ensures) ∙ sym c.is_link.ensures ∙ c.if-is_link.false) c.loop-rank.invariant

pub returns : goal.returns
returns c = sym (link_missing _ _ c.args.word.now (λ e l. c.loop-rank.invariant e (omega (arith, l, c.loop-rank-test.false))))
