-- What diyone7 does without -why, -co, -exec and -needs.
-- Source: own.
use Rattle.std.specs.Prelude.{ℕ, List, Option, Some, None}
use Rattle.relax_edges.specs.declared.edge.Edge.{Edge}
use Rattle.cycle_names.specs.CycleNames.{name_of}
use Rattle.diy_io.specs.Wrote.{SinkSeen}
use Rattle.diy_words.specs.Requests.{TestTask}
use Rattle.test_maker.specs.{CycleText.cycle_text, declared.refusal.Refusal.Refusal}
use Rattle.run_status.specs.declared.status.Status.{Status}
use Rattle.diy_tools.specs.{ArchMachines.machine_of, PrintAnswers.AnswersEdges, Refused.refused_of}

-- the name of a test: the given one, or by default that of its cycle
abbrev pub test_name : Option (List ℕ) → List Edge → List ℕ
test_name (Some name) cycle = name
test_name None cycle = name_of cycle

-- the text of the test that the arguments ask for
abbrev pub asked_text : TestTask → List ℕ
asked_text asked =
    let m = machine_of asked.arch in
    cycle_text m.puts m.writing asked.mode (test_name asked.name asked.edges) asked.edges

-- the first reason why the edges of that test are refused
abbrev pub test_refused : TestTask → Option Refusal
test_refused asked = refused_of (machine_of asked.arch).puts asked.mode asked.edges

-- the edges are refused, and nothing is written; or the text of their test is printed
abbrev pub AnswersTest : TestTask → Status → SinkSeen → SinkSeen → Type 0
AnswersTest asked status old new = AnswersEdges (test_refused asked) (asked_text asked) status old new
