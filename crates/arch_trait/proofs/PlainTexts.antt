-- Immediates and labels read back from their text.
use Rattle.std.proofs.{Common.{ℕ, ◌≤◌, ◌≡◌, refl, Some, arith}, lemmas.Bool.le-leb}
use Rattle.std.specs.Fmt.{decimal}
use Rattle.text_parts.proofs.NumberLaws.{number_of-decimal}
use Rattle.micro_ops.specs.declared.operation.Micro.TheVariants as ops
use Rattle.arch_trait.specs.Writing.{immediate_number, label, label_name, label_word, label_raw}

-- an immediate is read from its decimal
pub immediate_back : (n : ℕ) → n ≤ 2047 → immediate_number (decimal n) ≡ Some n
unfolding immediate_number
immediate_back n h = grind (arith, number_of-decimal, le-leb)

-- a label is read from its name and the colon
pub label_back : (n : ℕ) → label_raw (label_word n) ≡ Some (record { op = ops.Label 0; name = label (label_name n) })
unfolding label_raw
label_back n = refl
