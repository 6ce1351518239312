-- One slot more is filled: a link with the next word, another edge as it is.
use Rattle.std.proofs.Common.{sym, ◌∙◌}
use Rattle.cycle_names.proofs.NameSteps.{fill_link, fill_plain}
use Rattle.cycle_names.proofs.read.+fill_each.Goals as goal

pub returns-in_ok-link_with-in-len1-up : goal.returns-in_ok-link_with-in-len1-up
returns-in_ok-link_with-in-len1-up t c =
    fill_link c.args.slots.now c.args.links.now c.split_word.result.0.now c.split_word.result.1.now _ c.in_ok-link_with-in-len1-up.field-0
    c.args.edges.now.items c.push.new.self.items c.fill_each.new.edges.items c.fill_each.result c.in-len1-up.len_at_least (sym c.is_diff.ensures ∙ c.if-is_diff.true)
    c.split_word.ensures.word c.split_word.ensures.remainder c.in_ok-link_with-in-len1-up.ensures c.push.ensures.items c.fill_each.ensures

pub returns-else-is_diff : goal.returns-else-is_diff
returns-else-is_diff t c =
    fill_plain c.args.slots.now c.args.links.now _ c.args.edges.now.items c.push-else-is_diff.new.self.items c.fill_each-else-is_diff.new.edges.items c.fill_each-else-is_diff.result
    c.in-len1-up.len_at_least (sym c.is_diff.ensures ∙ c.if-is_diff.false) c.push-else-is_diff.ensures.items c.fill_each-else-is_diff.ensures
