-- The two parts of the rotation are compared with those of what is wanted.
use Rattle.std.proofs.Common.{arith}
use Rattle.cycle_names.proofs.Places.{parts_join}
use Rattle.cycle_names.proofs.fit.joins_at.Goals as goal

pub returns-then-are_same : goal.returns-then-are_same
returns-then-are_same c =
    let h = parts_join c.args.slots.now c.args.wanted.now _ _ _ _ c.args.place c.split_at.ensures.back c.split_at.ensures.front c.split_at-2.ensures.front c.split_at-2.ensures.back c.requires.long in grind (arith, h)

pub returns-else-are_same : goal.returns-else-are_same
returns-else-are_same c =
    let h = parts_join c.args.slots.now c.args.wanted.now _ _ _ _ c.args.place c.split_at.ensures.back c.split_at.ensures.front c.split_at-2.ensures.front c.split_at-2.ensures.back c.requires.long in grind (arith, h)
