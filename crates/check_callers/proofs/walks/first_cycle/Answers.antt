use Rattle.std.proofs.Common.{None, false, refl}
use Rattle.check_callers.proofs.AnyCycles.{any_answer}
use Rattle.check_callers.proofs.walks.first_cycle.Goals as goal

-- the test says yes on each cycle, so that the cycles that it takes are all cycles
pub returns : goal.returns
returns c =
    any_answer _ (λ u. record { shown = record { ref_ptr = (0, 0); now = u }; shows = refl; met = refl }) c.args.relaxes c.args.size false None c.next.result
    (rw c.new-walk.ensures at c.next.ensures.next)
