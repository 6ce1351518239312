-- The law `two_threads_show_six` holds.
use Rattle.critical_cycles.proofs.CriticalLaws.{two_threads_show_six}
use Rattle.critical_cycles.proofs.shown.two_threads_show_six.Goals as goal

pub returns : goal.returns
returns c = two_threads_show_six
