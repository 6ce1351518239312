-- The first relaxation is put to its places, and then the others.
use Rattle.std.proofs.Common.{◌≡◌, ◌∙◌, ◌<◌, ◌≤◌, length, get_or, arith}
use Rattle.cycle_enum.proofs.SetPlaces.{places_only, places_put}
use Rattle.cycle_enum.proofs.places.+put_relaxes.Goals as goal

pub returns-in-len1-up-clause-put : goal.returns-in-len1-up-clause-put
returns-in-len1-up-clause-put t c =
    let first : c.edges.result.now ≡ get_or c.args.relaxes.now 0 c.first-item.result = c.edges.ensures.value ∙ c.first-item.is in
    let again : c.edges-in-len1-up.result.now ≡ get_or c.args.relaxes.now 0 c.first-item.result = c.edges-in-len1-up.ensures.value ∙ c.first-item.is in
    let few : length (get_or c.args.relaxes.now 0 c.first-item.result) ≤ 8 = rw first at c.edges.ensures.few in
    let within : c.args.from < 64 = omega (arith, c.requires, c.in-len1-up.len_at_least) in
    places_put c.args.relaxes.now c.first-item.result c.args.from (record { edges = c.put_edges.new.rows; ends = c.put_end.new.row }) c.put_relaxes.new.places
    c.in-len1-up.len_at_least within few (rw first at c.put_edges.ensures.put) (rw again at c.put_end.ensures.put) c.put_relaxes.ensures.kept c.put_relaxes.ensures.put

pub returns-in-len1-up-clause-only : goal.returns-in-len1-up-clause-only
returns-in-len1-up-clause-only t c =
    let first : c.edges.result.now ≡ get_or c.args.relaxes.now 0 c.first-item.result = c.edges.ensures.value ∙ c.first-item.is in
    let again : c.edges-in-len1-up.result.now ≡ get_or c.args.relaxes.now 0 c.first-item.result = c.edges-in-len1-up.ensures.value ∙ c.first-item.is in
    let some : 0 < length (get_or c.args.relaxes.now 0 c.first-item.result) = rw first at c.edges.ensures.some in
    places_only c.args.relaxes.now c.first-item.result c.args.from c.args.places.now (record { edges = c.put_edges.new.rows; ends = c.put_end.new.row }) c.put_relaxes.new.places
    c.in-len1-up.len_at_least some (rw first at c.put_edges.ensures.only) (rw again at c.put_end.ensures.only) c.put_relaxes.ensures.only
