-- Which cycles are known, by their normal forms: for clauses of private functions.
-- Source: own.
use Rattle.std.specs.Prelude.{⊤, List, [], ◌∷◌}
use Rattle.relax_edges.specs.declared.edge.Edge.{Edge}
use Rattle.diycross7_cycles.specs.{declared.normal_form.NormalForm.NormalForm, NormalForms.IsNormalForm}

-- the normal forms of some cycles, in order
abbrev pub AreNormalForms : List (List Edge) → List NormalForm → Type 0
AreNormalForms [] [] = ⊤
AreNormalForms [] (_ ∷ _) = ⊥
AreNormalForms (_ ∷ _) [] = ⊥
AreNormalForms (u ∷ us) (form ∷ forms) = IsNormalForm u form.ranks.items × AreNormalForms us forms
