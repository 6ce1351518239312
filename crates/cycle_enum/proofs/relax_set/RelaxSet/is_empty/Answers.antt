-- A number that isn't zero has a bit.
use Rattle.cycle_enum.proofs.SetPlaces.{some_bit}
use Rattle.cycle_enum.proofs.relax_set.RelaxSet.is_empty.Goals as goal

pub returns-clause-some : goal.returns-clause-some
returns-clause-some c h =
    let b = some_bit c.args.self.bits (λ e. cc) in
    record { at = b.at; is = b.is }
