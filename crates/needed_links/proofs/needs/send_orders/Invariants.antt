-- The lines of the edges so far are sent.
use Rattle.std.proofs.Common.{◌≡◌, length, take}
use Rattle.std.specs.List.{flat_map}
use Rattle.list_laws.specs.Numbers.{upto}
use Rattle.cycle_events.specs.Resolution.{move_count}
use Rattle.arch_trait.specs.PlaceNames.{letters}
use Rattle.diy_io.specs.Page.{SentAll}
use Rattle.needed_links.proofs.OrderLines.{text_if}
use Rattle.needed_links.proofs.needs.send_orders.Given as goal

abbrev pub invariant-loop-i : goal.invariant-loop-i
invariant-loop-i g l = record {
  names : l.places ≡ letters (move_count l.valued.edges);
  sent : SentAll (g.O.Sink.seen l.fn.out) l.fn.page (g.O.Sink.seen l.out) l.page (flat_map (text_if l.valued.edges) (take l.i (upto (length l.valued.edges))));
}
