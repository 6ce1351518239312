-- The law `interleavings_make_executions` holds.
use Rattle.sc_and_interleavings.proofs.Made.{interleavings_make_executions}
use Rattle.sc_and_interleavings.proofs.interleavings.interleavings_make_executions.Goals as goal

pub returns : goal.returns
returns c = interleavings_make_executions
