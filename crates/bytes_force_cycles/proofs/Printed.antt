-- The printed text of the test of a cycle forces the cycle.
use Rattle.std.proofs.Common.{ℕ, List}
use Rattle.relax_edges.specs.declared.{kinds.ArchName.ArchName, kinds.ObsMode.ObsMode, edge.Edge.Edge}
use Rattle.arch_trait.specs.{Cells.WritesCells, Cells.MakesOneAccess, Laws.IsArch, Threads.Puts, Writing.Writing, Writing.WritesBack, Writing.name_in}
use Rattle.litmus_text.specs.{Printable.IsTestName, TestText.test_text}
use Rattle.bytes_force_cycles.proofs.{BackLaws.reads_back, BytesForced.bytes_force, Readable.readable}
use Rattle.tests_force_cycles.specs.{TestHeadline.HasTest, TestOf.test_of}
use Rattle.bytes_force_cycles.specs.PrintedHeadline.{BytesForce}

-- the printed text of the test of a cycle, under a name of a test's form, forces the cycle
pub printed_force : (a : Puts) (arch : ArchName) (w : Writing) (name : List ℕ) (es : List Edge) (mode : ObsMode) → IsArch a → WritesBack a w → WritesCells a w → MakesOneAccess a → IsTestName name → HasTest a es mode
    → BytesForce arch w name (test_text arch w name (test_of a (name_in w.registers) es mode)) es mode
printed_force a arch w name es mode laws back cells one named t =
    bytes_force a arch w name es mode laws back t
    (reads_back a arch w name (test_of a (name_in w.registers) es mode) back cells (readable a arch w name es mode laws back cells one named t.code))
