-- The summary that the demonstration writes.
-- Source: own.
use Rattle.std.specs.{Prelude.{ℕ, ◌==◌, if◌then◌else◌, List, [], ◌∷◌, ◌++◌, codes}, Fmt.decimal}
use Rattle.cycle_names.specs.{declared.family.Family.Family, Families.{all_families, family_word}}
use Rattle.list_laws.specs.Numbers.{upto}
use Rattle.arch_trait.specs.{Threads.Puts, Writing.Writing}
use Rattle.demo_tests.specs.{declared.tally.TestTally.TestTally, Tallies.{numbered_text, tally_of_tests, family_tallies}}

-- a line of the summary: a family's name or `total`, and the numbers of tests, lines and bytes counted under it
unfoldable pub tally_line : List ℕ → TestTally → List ℕ
tally_line word tally =
    word ++ codes " tests " ++ decimal tally.tests ++ codes " lines " ++ decimal tally.lines ++ codes " bytes " ++ decimal tally.bytes ++ codes "\n"

-- the line of a family, if it had a test; otherwise nothing
unfoldable pub family_line : Family → TestTally → List ℕ
family_line family tally = if tally.tests == 0 then [] else tally_line (family_word family) tally

-- the lines of families, each with its tally
abbrev pub family_lines : List Family → List TestTally → List ℕ
family_lines (family ∷ families) (tally ∷ tallies) = family_line family tally ++ family_lines families tallies
family_lines _ _ = []

-- the lines of all families and then the line of all tests, from the tallies of the families and that of all
abbrev pub summary_lines : List TestTally → TestTally → List ℕ
summary_lines families all = family_lines all_families families ++ tally_line (codes "total") all

-- the summary of `count` tests: a line for each family that had one, in the order of the table, and one for all
unfoldable pub demo_text : Puts → Writing → ℕ → List ℕ
demo_text puts writing count =
    let text = numbered_text puts writing in
    summary_lines (family_tallies text count) (tally_of_tests text (upto count))
