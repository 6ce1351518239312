-- What is added is what comes after a family's word in a name.
use Rattle.std.proofs.{Common.arith, lemmas.Grind.common_steps}
use Rattle.cycle_names.proofs.Texts.{turned_none, turned_some}
use Rattle.cycle_names.proofs.words.push_links.Goals as goal

pub returns-in_default : goal.returns-in_default
returns-in_default g c =
    let h = turned_none (λ e. e.now) c.args.edges.now _ _ c.args.place c.split_at.ensures.back c.split_at.ensures.front _ _ _ c.first_link.ensures c.first_link-2.ensures c.or.ensures c.in_default.is in
    grind (arith, common_steps, h)

pub returns-then-not-have_rank : goal.returns-then-not-have_rank
returns-then-not-have_rank g c =
    let h = turned_some (λ e. e.now) c.args.edges.now _ _ c.args.place c.split_at.ensures.back c.split_at.ensures.front _ _ _ c.first_link.ensures c.first_link-2.ensures c.or.ensures _ c.in-Some.is in
    grind (arith, common_steps, h)

pub returns-then-rank-ne-PO_RANK : goal.returns-then-rank-ne-PO_RANK
returns-then-rank-ne-PO_RANK g c =
    let h = turned_some (λ e. e.now) c.args.edges.now _ _ c.args.place c.split_at.ensures.back c.split_at.ensures.front _ _ _ c.first_link.ensures c.first_link-2.ensures c.or.ensures _ c.in-Some.is in
    grind (arith, common_steps, h)

pub returns-else-rank-ne-PO_RANK : goal.returns-else-rank-ne-PO_RANK
returns-else-rank-ne-PO_RANK g c =
    let h = turned_some (λ e. e.now) c.args.edges.now _ _ c.args.place c.split_at.ensures.back c.split_at.ensures.front _ _ _ c.first_link.ensures c.first_link-2.ensures c.or.ensures _ c.in-Some.is in
    grind (arith, common_steps, h)
