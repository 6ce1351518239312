-- The forms that are left read what the whole table reads.
use Rattle.std.proofs.Common.{◌≡◌, map, length}
use Rattle.arch_trait.specs.InstructionPieces.{operand_texts}
use Rattle.arch_instructions_laws.specs.Tables.{form_seen}
use Rattle.arch_instructions.specs.Founds.{forms_raw}
use Rattle.arch_instructions.proofs.read.read_by.Given as goal

abbrev pub invariant-loop-left : goal.invariant-loop-left
invariant-loop-left l =
    forms_raw (map form_seen l.left) l.table.labels l.word (operand_texts l.operands) ≡
    forms_raw (map form_seen l.table.forms.now) l.table.labels l.word (operand_texts l.operands)

abbrev pub decreases-loop-left : goal.decreases-loop-left
decreases-loop-left l = length l.left
