-- How a call that writes a graph ends.
-- Source: own.
use Rattle.std.specs.Prelude.{◌≡◌, ◌≤◌, ℕ, List, length, Result, Ok, Err}
use Rattle.diy_io.specs.Wrote.{SinkSeen, WroteAll, WrotePart}
use Rattle.exec_graph.specs.{declared.graph.{DrawError.DrawError, Layout.Layout}, Graphs.{PictureSeen, arrows_of, initial_places, points_drawn}}
use Rattle.exec_graph.specs.declared.graph.DrawError.TheVariants as errors

-- the whole text was written; or the sink failed, and has taken a prefix of it; or there was no memory, and nothing was written
abbrev pub Draws : List ℕ → SinkSeen → SinkSeen → Result (Unit {0}) DrawError → Type 0
Draws text old new (Ok _) = WroteAll old new text
Draws text old new (Err errors.OutFault) = WrotePart old new text
Draws text old new (Err errors.NoMemory) = new ≡ old

-- what is found of a picture before it is written. Only private functions cite this
pub record IsLayout (picture : PictureSeen) (layout : Layout) : Type 0 where
  pub initial : layout.initial.items ≡ initial_places (length picture.places) picture.seen
  pub few : length layout.initial.items ≤ 255
  pub drawn : layout.drawn.items ≡ points_drawn picture.visits layout.initial.items picture.seen
  pub arrows : layout.arrows.items ≡ arrows_of picture.judged
