-- The names of numbered registers, and labels as instructions of their own.
-- Source: the litmus format of the herdtools, and the instruction manuals of Power, Arm and RISC-V.
use Rattle.std.specs.{Prelude.{ℕ, List, Option, None, map}, List.range_with_len}
use Rattle.arch_trait.specs.{declared.numbered.Numbered.Numbered, Writing.{OperandTexts, none, RawInstr, label_raw, register_text}}

-- the name of a numbered register
abbrev pub register_name : Numbered → ℕ → List ℕ
register_name n r = register_text n.letter n.first r

-- the names of all numbered registers, in order
abbrev pub register_names : Numbered → List (List ℕ)
register_names n = map (register_name n) (range_with_len 0 n.count)

-- a label as an instruction of its own, if the word ends with a colon and has no operands
abbrev pub label_alone : List ℕ → OperandTexts → Option RawInstr
label_alone word none = label_raw word
label_alone word _ = None
