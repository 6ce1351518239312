-- Where no edge was marked before, those are marked that occur in relaxations.
use Rattle.cycle_enum.proofs.Marking.{marked_from_none}
use Rattle.cycle_enum.proofs.letters.marks_of.Goals as goal

pub returns : goal.returns
returns c = marked_from_none c.args.relaxes.now c.mark_relaxes.new.marks c.mark_relaxes.ensures
