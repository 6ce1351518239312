-- The states of one test, by its name.
-- Source: own.
use Rattle.std.specs.{Prelude.{ℕ, cond, List, [], ◌∷◌, ◌++◌, decimal, Option, Some, None, option_map}, Str.bytes_eq}
use Rattle.log_sum.specs.{declared.counted.CountedState.CountedState, Representing.Kept, Summed.{StateSummed, Summed}, SumText.{filling, mark_sign}}

-- the first test with this name
abbrev pub test_named : List ℕ → List (List ℕ × Summed) → Option Summed
test_named name [] = None
test_named name (test ∷ tests) = cond (bytes_eq name test.0) (Some test.1) (test_named name tests)

-- the states of the test with this name in what is kept, if it is there
abbrev pub states_kept : List ℕ → Kept → Option (List StateSummed)
states_kept name kept = option_map (λ test. test.states) (test_named name kept.progress.tests)

-- a state with its mark and count, as the definitions see it
abbrev pub counted_view : CountedState → StateSummed
counted_view state = (state.form.items, (state.mark, state.count))

-- the text of a state in its line of the sum
abbrev pub counted_text : StateSummed → List ℕ
counted_text state = decimal state.1.1 ++ filling (decimal state.1.1) ++ mark_sign state.1.0 ++ state.0
