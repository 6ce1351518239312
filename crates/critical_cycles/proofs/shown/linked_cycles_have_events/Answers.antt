-- The law `linked_cycles_have_events` holds.
use Rattle.critical_cycles.proofs.Links.{linked_cycles_have_events}
use Rattle.critical_cycles.proofs.shown.linked_cycles_have_events.Goals as goal

pub returns : goal.returns
returns c = linked_cycles_have_events
