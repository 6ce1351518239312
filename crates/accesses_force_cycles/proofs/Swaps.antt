-- Two values that follow each other, exchanged.
use Rattle.accesses_force_cycles.proofs.Vocabulary.{◌≡◌, ℕ, ◌+◌, ◌-◌, ◌<◌, cond, refl, arith, ◌==◌, cond-true, eq-eqb, Dir, MayFollow, swapped}
use Rattle.relax_edges.specs.declared.kinds.Dir.TheVariants as dirs

-- the greater of the two values becomes the one before it
pub swapped_here : (value : ℕ) → swapped value value ≡ value - 1
swapped_here value = cond-true {A = ℕ} (value == value) (value - 1) (cond (value + 1 == value) value value) (eq-eqb value value refl)

-- the lesser of the two values becomes the greater
pub swapped_before : (value v : ℕ) → v + 1 ≡ value → swapped value v ≡ value
swapped_before value v h = grind arith

-- values that are not exchanged with each other keep their order
pub rises_still : (value u v : ℕ) → 1 < value → u < v → (u + 1 ≡ value → v ≡ value → ⊥) → swapped value u < swapped value v
rises_still value u v h l d = grind arith

-- accesses whose values are not exchanged with each other may still follow each other
pub follows_still : (d : Dir) (value u v : ℕ) → 1 < value → MayFollow d u v → (u + 1 ≡ value → v ≡ value → ⊥) → MayFollow d (swapped value u) (swapped value v)
follows_still dirs.R value u v h l d = grind arith
follows_still dirs.W value u v h l d = rises_still value u v h l d
