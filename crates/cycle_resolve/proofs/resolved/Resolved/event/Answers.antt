-- The numbers of an event are those of its definition.
use Rattle.std.proofs.Common.{◌≡◌, length, arith, ◌∙◌, ap}
use Rattle.list_laws.proofs.Numbers.{length-map-upto, get_or-map-upto}
use Rattle.cycle_events.specs.Resolution.{event_of, events_of}
use Rattle.cycle_resolve.proofs.resolved.Resolved.event.Goals as goal

pub bounds-deref-from : goal.bounds-deref-from
bounds-deref-from c =
    let e : c.deref.result.now ≡ events_of c.self.inside.kept.cycle = c.deref.ensures.0 ∙ c.self.invariant.events_are in
    omega (arith, ap length e, length-map-upto (event_of c.self.inside.kept.cycle) (length c.self.inside.kept.cycle), ap length c.self.view_is)

pub returns : goal.returns
returns c =
    let e : c.deref.result.now ≡ events_of c.self.inside.kept.cycle = c.deref.ensures.0 ∙ c.self.invariant.events_are in
    rw (e, c.from.ensures, ← c.self.view_is) (get_or-map-upto (event_of c.self.inside.kept.cycle) (length c.self.inside.kept.cycle) c.args.i _ (omega (arith, ap length c.self.view_is)))
