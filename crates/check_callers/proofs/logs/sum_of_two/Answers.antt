use Rattle.std.proofs.Common.{[], ◌∷◌}
use Rattle.check_callers.proofs.logs.sum_of_two.Goals as goal

-- what is kept represents the first log, then both, each after its end
pub returns : goal.returns
returns c =
    let one = c.in_ok-end_file.ensures.ended [] _ (c.in_ok-feed.ensures.fed [] [] c.in-Ok.ensures) in
    let two = c.in_ok-end_file-2.ensures.ended (c.args.first.now ∷ []) _ (c.in_ok-feed-2.ensures.fed (c.args.first.now ∷ []) [] one) in
    (record { files = c.args.first.now ∷ c.args.second.now ∷ []; represents = two }, c.sum_or_fault.ensures.written _ _ two)
