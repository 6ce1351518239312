-- Lists that begin alike have tests of the same text.
use Rattle.std.proofs.Common.{ℕ, List, ap, sym, ◌∙◌}
use Rattle.relax_edges.specs.declared.{kinds.ObsMode.ObsMode, edge.Edge.Edge}
use Rattle.arch_trait.specs.{Threads.Puts, Writing.Writing, Writing.name_in}
use Rattle.litmus_text.specs.TestText.{test_text}
use Rattle.tests_force_cycles.specs.TestOf.{test_of}
use Rattle.rotations_are_alike.specs.Alike.{SameText}
use Rattle.rotations_are_alike.proofs.Beginning.{stays, turned_alike, turns_to}

-- the text of the test in which threads are counted in this list
text_from : Puts → Writing → List ℕ → ObsMode → List Edge → List ℕ
text_from a w name mode us = test_text a.name w name (test_of a (name_in w.registers) us mode)

-- the turned list and all lists that begin alike have tests of the same text
pub same_text : (a : Puts) (w : Writing) → SameText a w
unfolding text_from
same_text a w = record {
  turns = λ name es mode h. ap (text_from a w name mode) (turned_alike.again es h);
  begins = λ name us es mode o b. ap (text_from a w name mode) (turns_to us es o b ∙ sym (stays us o));
}
