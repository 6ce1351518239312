use Rattle.std.proofs.Common.{sym, ◌∙◌}
use Rattle.check_callers.proofs.Made.{composed_same}
use Rattle.check_callers.proofs.cycles.are_alike.Goals as goal

-- each cycle is the list that it was made from
pub returns-clause-alike : goal.returns-clause-alike
returns-clause-alike c =
    let first = composed_same c.args.first.now c.in_ok-one.one (sym c.cycle.ensures.made ∙ c.in_ok-one.was) in
    let second = composed_same c.args.second.now c.in_ok-other.other (sym c.cycle-2.ensures.made ∙ c.in_ok-other.was) in
    rw (← first, ← second) c.same.ensures
