-- Events between external edges: whether they are plain is the same for all rotations of a cycle.
use Rattle.cycle_names.proofs.Vocabulary.{arith, ◌≡◌, ℕ, List, [], ◌∷◌, ◌++◌, refl, take-append-drop, Edge, rotated, IsStepwise, stepwise_turned, is_plain_before, all_unmarked, is_plain_outside}

plain_prefix : (e m : Edge) (a b : List Edge) → is_plain_before e (a ++ m ∷ b) ≡ is_plain_before e (a ++ m ∷ [])
plain_prefix e m [] b = refl
plain_prefix e m (f ∷ a) b = refl

-- whether accesses are plain is asked of each edge and the one after it
plain_stepwise : IsStepwise is_plain_before all_unmarked is_plain_outside
plain_stepwise = record { looks = plain_prefix; alone = λ e. refl; step = λ e es. refl; closes = λ e es. refl }

-- whether a cycle is plain between external edges is the same for all its rotations
pub plain_rotated : (k : ℕ) (u : List Edge) → is_plain_outside (rotated k u) ≡ is_plain_outside u
plain_rotated k u = grind (arith, stepwise_turned, plain_stepwise, take-append-drop)
