-- The printed text of a coherence test.
use Rattle.std.proofs.Common.{◌≡◌, ℕ, List, sym, ◌∙◌, ap}
use Rattle.relax_edges.specs.{declared.kinds.ArchName.ArchName, declared.edge.Edge.Edge}
use Rattle.cycle_events.specs.Resolution.{turned}
use Rattle.arch_trait.specs.{Threads.Puts, Writing.{Writing, name_in}}
use Rattle.litmus_text.specs.{declared.test.Test.Test, Tests.test_seen, TestText.test_text}
use Rattle.co_tests.specs.{CoRefusals.coherence_text, CoherenceTests.coherence_test_of}

-- it is the text of the test that is made
pub made_coherence : (a : Puts) (w : Writing) (name : List ℕ) (cycle : List Edge) (arch : ArchName) (test : Test)
    → a.name ≡ arch → test_seen test ≡ coherence_test_of a (name_in w.registers) (turned cycle) → test_text arch w name (test_seen test) ≡ coherence_text a w name cycle
unfolding coherence_text
made_coherence a w name cycle arch test same made =
    ap (λ arch. test_text arch w name (test_seen test)) (sym same) ∙ ap (test_text a.name w name) made
