-- A text on standard output, and the refusal of edges before it.
-- Source: own.
use Rattle.std.specs.Prelude.{ℕ, ◌≡◌, List, Option, Some, None}
use Rattle.diy_io.specs.Wrote.{SinkSeen, WroteAll, WrotePart}
use Rattle.test_maker.specs.declared.refusal.Refusal.{Refusal}
use Rattle.run_status.specs.declared.status.Status.{Status}
use Rattle.run_status.specs.declared.status.Status.TheVariants as statuses
use Rattle.run_status.specs.declared.status.Device.TheVariants as devices

-- all of a text is printed without an error, with the status `Done`; or the device takes a prefix of it, its error count rises or is at its
-- maximum, and the status says that standard output failed
abbrev pub Prints : List ℕ → Status → SinkSeen → SinkSeen → Type 0
Prints text statuses.Done old new = WroteAll old new text
Prints text (statuses.WriteFault devices.Out) old new = WrotePart old new text
Prints text _ old new = ⊥

-- edges are refused, and nothing is written; or a text is printed
abbrev pub AnswersEdges : Option Refusal → List ℕ → Status → SinkSeen → SinkSeen → Type 0
AnswersEdges (Some refusal) text status old new = (status ≡ statuses.Refused refusal) × (new ≡ old)
AnswersEdges None text status old new = Prints text status old new
