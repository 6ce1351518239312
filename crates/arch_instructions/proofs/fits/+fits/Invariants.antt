-- The forms of operands that are left grow fewer.
use Rattle.std.proofs.Common.{length}
use Rattle.arch_instructions.proofs.fits.+fits.Given as goal

abbrev pub decreases-fits : goal.decreases-fits
decreases-fits l = length l.pieces.now
