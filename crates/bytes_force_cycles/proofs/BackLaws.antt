-- Laws of reading back, for the crates above.
use Rattle.std.proofs.Common.{ℕ, List, ◌≡◌, true}
use Rattle.relax_edges.specs.declared.kinds.ArchName.{ArchName}
use Rattle.arch_trait.specs.{Threads.Puts, Writing.Writing, Writing.WritesBack, Cells.WritesCells, SeenTests.TestSeen, PlaceNames.number_in}
use Rattle.litmus_text.specs.{Reread.IsReadable, TestReadsBack.TestReadsBack}
use Rattle.litmus_text.proofs.MentionedBack as mentioned_back
use Rattle.std.specs.Prelude.{is_some}
use Rattle.litmus_text.proofs.NamesBack.{Numbered}
use Rattle.litmus_text.proofs.NamesBack as names_back

-- the text of a readable test is read as that test, its places numbered by a table
pub reads_back : (a : Puts) (arch : ArchName) (w : Writing) (name : List ℕ) (test : TestSeen) → WritesBack a w → WritesCells a w → IsReadable a arch w name test → TestReadsBack arch w name test
reads_back a arch w name test laws cells h = mentioned_back.reads_back a arch w name test laws cells h

-- a name that is in a table has its number there
pub numbered_in : (table : List (List ℕ)) (name : List ℕ) → is_some (number_in table name) ≡ true → Numbered table name
numbered_in table name h = names_back.numbered_in table name h
