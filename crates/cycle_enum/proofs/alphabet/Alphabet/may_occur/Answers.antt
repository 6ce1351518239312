-- The places that an alphabet keeps are those of its relaxations.
use Rattle.cycle_enum.proofs.Turning.{all_below}
use Rattle.cycle_enum.proofs.alphabet.Alphabet.may_occur.Goals as goal

pub may_occur-requires : goal.may_occur-requires
may_occur-requires c = rw c.ranks.ensures (all_below c.args.list.now)

pub returns-else-self : goal.returns-else-self
returns-else-self c fails = c.may_occur.ensures fails c.args.self.now c.args.list.now (rw (← c.self.view_is) c.self.invariant.placed) c.ranks.ensures
