-- A thread has one line of items, or none where it has no address registers.
use Rattle.litmus_text.proofs.{Vocabulary.{codes, length, ◌≡◌, ◌≢◌}, InitialLaws.{no_items, some_items, empty_from, some_from}, JoinLaws.{nothing_put, two_put}}
use Rattle.litmus_text.proofs.initial.print_item_line.Goals as goal

pub returns-then-is_empty-clause-text : goal.returns-then-is_empty-clause-text
returns-then-is_empty-clause-text g c =
    let empty : length c.as_slice-links.result.now ≡ 0 = empty_from c.is_empty.result _ c.is_empty.ensures c.if-is_empty.true in
    nothing_put _ _
    (no_items g.A.Arch.writing c.args.places.now c.args.thread c.args.code.now.links.items c.as_slice-links.result.now c.as_slice-links.ensures.value empty)

pub returns-clause-text : goal.returns-clause-text
returns-clause-text g c =
    let some : length c.as_slice-links.result.now ≢ 0 = some_from c.is_empty.result _ c.is_empty.ensures c.if-is_empty.false in
    two_put _ _ _ _ (codes "\n") _ c.print_items.ensures.text c.put_fixed.ensures
    (some_items g.A.Arch.writing c.args.places.now c.args.thread c.args.code.now.links.items c.as_slice-links.result.now c.as_slice-links.ensures.value some)
