-- Which lines open a block, and where.
use Rattle.std.proofs.Common.{◌≡◌, ℕ, List, [], ◌∷◌, ◌++◌, true, false, refl, sym, ap, ◌∙◌, arith}
use Rattle.std.proofs.lemmas.Slice.Eq.{bytes_eq-Decides}
use Rattle.std.specs.{Prelude.{Bool, Err, codes}, Option.is_some, Str.bytes_eq}
use Rattle.list_laws.proofs.Cases.{by_test}
use Rattle.text_parts.specs.{Words.{words, is_nil}, Blanks.{is_inked, unblanked}, LeadingRuns.{leading_run, after_run}}
use Rattle.text_parts.proofs.WordLaws.{word_found, no_word_found}
use Rattle.log_sum.specs.declared.{errors.LogKind.LogKind, kinds.Place.Place, kinds.Place.TheVariants.{Outside, Histogram, States, Judgement, Rest, Conditioned}}
use Rattle.log_sum.specs.{declared.errors.Fault.Fault, declared.errors.Fault.TheVariants.{Wrong, NoMemory}}
use Rattle.log_sum.specs.{SumViews.{IsLineFault}, LogLines.{test_line}, LineReading.{log_line_said}}
use Rattle.log_sum.specs.{Sieving.says_opening, Undoing.{UnlessNoMemory}}

-- what a line says begins a block only if the line opens one
pub says_what_opens : (place : Place) (text : List ℕ) → is_some (test_line (words text)) ≡ false → says_opening (log_line_said place text) ≡ false
unfolding log_line_said
says_what_opens Outside text h = grind arith
says_what_opens (Histogram kind) text h = grind arith
says_what_opens (States kind left) text h = grind arith
says_what_opens (Judgement kind) text h = grind arith
says_what_opens (Rest kind) text h = grind arith
says_what_opens (Conditioned kind) text h = grind arith

-- outside the blocks such a line begins one
pub opening_begins : (text : List ℕ) → is_some (test_line (words text)) ≡ true → says_opening (log_line_said Outside text) ≡ true
unfolding log_line_said
opening_begins text h = grind arith

-- there no line is wrong
pub never_wrong : (place : Place) (text : List ℕ) (kind : LogKind) → place ≡ Outside → log_line_said place text ≡ Err kind → ⊥
unfolding log_line_said
never_wrong place text kind e h = grind arith

pub fault_outside : (place : Place) (text : List ℕ) (fault : Fault) (Holds : Type 0) → place ≡ Outside → IsLineFault fault (log_line_said place text) → UnlessNoMemory (Err fault) Holds
fault_outside place text (Wrong kind) Holds e h = absurd (never_wrong place text kind e h)
fault_outside place text NoMemory Holds e h = tt

-- the first letters of a line that opens a block, after the blanks
pub record BeginsTest (text : List ℕ) : Type 0 where
  pub rest : List ℕ
  pub is : unblanked text ≡ codes "Test" ++ rest

run_parts : (passes : ℕ → Bool) (text : List ℕ) → text ≡ leading_run passes text ++ after_run passes text
unfolding leading_run after_run
run_parts passes [] = refl
run_parts passes (byte ∷ text) = grind (arith, (run_parts passes text))

first_is_test : (first : List ℕ) (others : List (List ℕ)) → is_some (test_line (first ∷ others)) ≡ true → bytes_eq first (codes "Test") ≡ true
unfolding test_line
first_is_test first [] h = absurd (cc)
first_is_test first (name ∷ []) h = absurd (cc)
first_is_test first (name ∷ kind ∷ []) h = by_test (bytes_eq first (codes "Test")) (λ e. e) (λ e. absurd (grind arith))
first_is_test first (name ∷ kind ∷ more ∷ others) h = absurd (cc)

none_is_none : is_some (test_line []) ≡ true → ⊥
unfolding test_line
none_is_none h = cc

pub opening_text : (text : List ℕ) → is_some (test_line (words text)) ≡ true → BeginsTest text
opening_text text h =
    by_test (is_nil (leading_run is_inked (unblanked text)))
    (λ e. absurd (none_is_none (ap (λ ws. is_some (test_line ws)) (sym (no_word_found text (unblanked text) (leading_run is_inked (unblanked text)) refl refl e)) ∙ h)))
    (λ e.
    let found = word_found text (unblanked text) (leading_run is_inked (unblanked text)) (after_run is_inked (unblanked text)) refl refl refl e in
    let first = first_is_test (leading_run is_inked (unblanked text)) (words (after_run is_inked (unblanked text))) (ap (λ ws. is_some (test_line ws)) (sym found) ∙ h) in
    record {
      rest = after_run is_inked (unblanked text);
      is = run_parts is_inked (unblanked text) ∙ ap (λ w. w ++ after_run is_inked (unblanked text)) ((bytes_eq-Decides (leading_run is_inked (unblanked text)) (codes "Test")).0 first);
    })
