-- The forms of operands that are left grow fewer.
use Rattle.std.proofs.Common.{length}
use Rattle.arch_instructions.proofs.read.+add_pieces.Given as goal

abbrev pub decreases-add_pieces : goal.decreases-add_pieces
decreases-add_pieces l = length l.pieces.now
