-- What is made of edges, by whether each joins the next.
use Rattle.std.proofs.Common.{◌≡◌, ◌≤◌, true, false, nat_lt, List, [], ◌∷◌, ◌++◌, length, Option, Some, None, Ok, Err, refl, sym, ap, ◌∙◌}
use Rattle.std.specs.Prelude.{ℕ, slice_get}
use Rattle.relax_edges.specs.{declared.TheConstants.MAX_EDGES, declared.kinds.ArchName.ArchName, declared.edge.Edge.Edge, JoinedEdges.is_joined}
use Rattle.edge_algebra_laws.specs.Composable.{IsCycle, first_break}
use Rattle.edge_algebra_laws.proofs.Composing.{joined_unbroken, unbroken_joined, unbroken_cycle}
use Rattle.edge_algebra.specs.Compose.{unbroken}
use Rattle.cycle_names.specs.Laws.{are_of_arch}
use Rattle.cycles_from_lines.specs.{declared.errors.LineKind.TheVariants.DoesNotCompose, Cycles.{cycle_made, composed_or}}

-- edges of which each joins the next, and the last the first, make a cycle
pub joined_cycle : (u : List Edge) (e : Edge) → slice_get u 0 ≡ Some e → length u ≤ MAX_EDGES → is_joined (u ++ e ∷ []) ≡ true → IsCycle u
joined_cycle u e h few j = unbroken_cycle u e h few (unbroken_joined (u ++ e ∷ []) j)

-- and that cycle is what a line with them says
pub made_of_joined : (arch : ArchName) (u : List Edge) (e : Edge) → slice_get u 0 ≡ Some e → nat_lt MAX_EDGES (length u) ≡ false → are_of_arch arch u ≡ true
    → is_joined (u ++ e ∷ []) ≡ true → cycle_made arch u ≡ Ok (Some u)
made_of_joined arch [] e h few of j = absurd (cc h)
made_of_joined arch (x ∷ u) e h few of j =
    let same : x ≡ e = cc h in
    rw few (rw of (ap (λ o. composed_or (unbroken (x ∷ u) o)) (ap (λ y. first_break ((x ∷ u) ++ y ∷ [])) same ∙ unbroken_joined ((x ∷ u) ++ e ∷ []) j)))

-- other edges don't compose
pub made_of_unjoined : (arch : ArchName) (u : List Edge) (e : Edge) → slice_get u 0 ≡ Some e → nat_lt MAX_EDGES (length u) ≡ false → are_of_arch arch u ≡ true
    → is_joined (u ++ e ∷ []) ≡ false → cycle_made arch u ≡ Err DoesNotCompose
made_of_unjoined arch [] e h few of j = absurd (cc h)
made_of_unjoined arch (x ∷ u) e h few of j =
    let same : x ≡ e = cc h in
    rw few (rw of (ap (λ y. composed_or (unbroken (x ∷ u) (first_break ((x ∷ u) ++ y ∷ [])))) same ∙ by_break (first_break ((x ∷ u) ++ e ∷ [])) refl))
  where
    by_break : (o : Option ℕ) → first_break ((x ∷ u) ++ e ∷ []) ≡ o → composed_or (unbroken (x ∷ u) o) ≡ Err DoesNotCompose
    by_break (Some i) q = refl
    by_break None q = let is : is_joined ((x ∷ u) ++ e ∷ []) ≡ true = joined_unbroken ((x ∷ u) ++ e ∷ []) q in let no : true ≡ false = sym is ∙ j in absurd (cc)
