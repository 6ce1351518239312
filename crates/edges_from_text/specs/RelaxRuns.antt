-- What ends a run of bytes in the text of relaxations.
use Rattle.std.specs.Prelude.{ℕ, Bool}
use Rattle.edges_from_text.specs.{declared.relax_runs.RunEnd.RunEnd, RelaxText.{is_separator, is_bracket, ends_word}}
use Rattle.edges_from_text.specs.declared.relax_runs.RunEnd.TheVariants as ends

-- whether a byte ends a run
abbrev pub end_test : RunEnd → ℕ → Bool
end_test ends.Separator = is_separator
end_test ends.Bracket = is_bracket
end_test ends.Word = ends_word
