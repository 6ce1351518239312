-- The items of a thread are appended one after another, with blanks between.
use Rattle.litmus_text.proofs.{Vocabulary.arith, ElementLaws.below_at, JoinLaws.{none_put, one_put, all_put, all_short}}
use Rattle.litmus_text.proofs.initial.print_items.Goals as goal

pub loop-i-init : goal.loop-i-init
loop-i-init g c = none_put _ _ _ _ _

pub loop-i-preserved : goal.loop-i-preserved
loop-i-preserved g c =
    one_put _ _ _ _ _ _ c.args.links.now c.loop-i.i _ (omega arith) c.loop-i.invariant c.print_item.ensures.text c.print_item.ensures.short

pub returns-clause-text : goal.returns-clause-text
returns-clause-text g c = all_put _ _ _ _ _ c.args.links.now c.loop-i.i (omega arith) c.loop-i.invariant

pub returns-clause-short : goal.returns-clause-short
returns-clause-short g c = all_short _ _ _ _ _ c.args.links.now c.loop-i.i _ (omega arith) (omega arith) c.loop-i.invariant

pub print_item-requires-clause-register : goal.print_item-requires-clause-register
print_item-requires-clause-register g c = below_at (λ link. link.0) _ c.args.links.now c.loop-i.i _ c.requires.registers (omega arith)

pub print_item-requires-clause-place : goal.print_item-requires-clause-place
print_item-requires-clause-place g c = below_at (λ link. link.1) _ c.args.links.now c.loop-i.i _ c.requires.places (omega arith)
