-- What diyone7 does with the option -co and without -exec.
-- Source: own.
use Rattle.std.specs.{Prelude.{ℕ, List, Option}, Option.option_or}
use Rattle.relax_edges.specs.declared.edge.Edge.{Edge}
use Rattle.diy_io.specs.Wrote.{SinkSeen}
use Rattle.diy_words.specs.Requests.{CoherenceTask}
use Rattle.arch_trait.specs.Threads.{Puts}
use Rattle.co_tests.specs.CoRefusals.{coherence_refusal_of, coherence_text}
use Rattle.test_maker.specs.declared.refusal.Refusal.{Refusal}
use Rattle.run_status.specs.declared.status.Status.{Status}
use Rattle.diy_tools.specs.{ArchMachines.machine_of, PrintAnswers.AnswersEdges, Refused.refused_list, TestAnswers.test_name}

-- the first reason why a list of edges has no coherence test on an architecture
abbrev pub incoherence_refused : Puts → List Edge → Option Refusal
incoherence_refused a edges = option_or (refused_list a.name edges) (coherence_refusal_of a edges)

-- the text of the coherence test that the arguments ask for
abbrev pub incoherent_text : CoherenceTask → List ℕ
incoherent_text asked =
    let m = machine_of asked.arch in
    coherence_text m.puts m.writing (test_name asked.name asked.edges) asked.edges

-- the first reason why the edges of that test are refused
abbrev pub coherence_refused : CoherenceTask → Option Refusal
coherence_refused asked = incoherence_refused (machine_of asked.arch).puts asked.edges

-- the edges are refused, and nothing is written; or the text of their coherence test is printed
abbrev pub AnswersCoherence : CoherenceTask → Status → SinkSeen → SinkSeen → Type 0
AnswersCoherence asked status old new = AnswersEdges (coherence_refused asked) (incoherent_text asked) status old new
