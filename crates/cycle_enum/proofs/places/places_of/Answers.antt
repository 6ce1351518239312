-- Where relaxations are put to empty places, exactly they are there.
use Rattle.cycle_enum.proofs.SetPlaces.{put_to_none}
use Rattle.cycle_enum.proofs.places.places_of.Goals as goal

pub returns : goal.returns
returns c = put_to_none c.none-row.result c.none-row.ensures 332 8 8 c.args.relaxes.now c.put_relaxes.new.places c.put_relaxes.ensures.put c.put_relaxes.ensures.only
