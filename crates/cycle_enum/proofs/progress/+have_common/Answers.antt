-- A relaxation is in the first two sets, or in two later ones.
use Rattle.cycle_enum.proofs.SetPlaces.{meet_later}
use Rattle.cycle_enum.proofs.progress.+have_common.Goals as goal

pub returns-else-not-is_empty-clause-some : goal.returns-else-not-is_empty-clause-some
returns-else-not-is_empty-clause-some t c h = meet_later c.args.row.now c.args.other.now c.in-len1-up.len_at_least c.in-len1-up-other.len_at_least (c.have_common.ensures.some h)
