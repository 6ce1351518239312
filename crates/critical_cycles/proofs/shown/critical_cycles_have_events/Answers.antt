-- The law `critical_cycles_have_events` holds.
use Rattle.critical_cycles.proofs.CriticalLaws.{critical_cycles_have_events}
use Rattle.critical_cycles.proofs.shown.critical_cycles_have_events.Goals as goal

pub returns : goal.returns
returns c = critical_cycles_have_events
