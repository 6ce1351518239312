-- Labels in the order of their first mention.
-- Source: own.
use Rattle.std.specs.Prelude.{ℕ, ◌+◌, Bool, true, ◌&&◌, max, nat_le, nat_lt, List, [], ◌∷◌}
use Rattle.micro_ops.specs.declared.operation.Micro.{Micro}
use Rattle.micro_ops.specs.declared.operation.Micro.TheVariants as ops

-- how many labels have numbers after an operation
abbrev pub labels_after : ℕ → Micro → ℕ
labels_after count (ops.BranchEq label) = max count (label + 1)
labels_after count (ops.BranchNz a label) = max count (label + 1)
labels_after count (ops.Label label) = max count (label + 1)
labels_after count op = count

-- how many labels have numbers after the operations of a thread
abbrev pub labels_in : ℕ → List Micro → ℕ
labels_in count [] = count
labels_in count (op ∷ code) = labels_in (labels_after count op) code

-- the label of an operation, if it has one, has a number or gets the next one, which is below 64
abbrev pub is_next : ℕ → Micro → Bool
is_next count (ops.BranchEq label) = nat_le label count && nat_lt label 64
is_next count (ops.BranchNz a label) = nat_le label count && nat_lt label 64
is_next count (ops.Label label) = nat_le label count && nat_lt label 64
is_next count op = true

-- the labels of operations are numbered in the order of their first mention, if so many have numbers before
abbrev pub labels_ordered : ℕ → List Micro → Bool
labels_ordered count [] = true
labels_ordered count (op ∷ code) = is_next count op && labels_ordered (labels_after count op) code
