-- The rows that an alphabet keeps are those by its relaxations.
use Rattle.cycle_enum.proofs.alphabet.Alphabet.may_end.Goals as goal

pub returns : goal.returns
returns c fails = rw c.edges.ensures.value at (c.may_end.ensures fails c.args.self.now (rw (← c.self.view_is) c.self.invariant.ends))
