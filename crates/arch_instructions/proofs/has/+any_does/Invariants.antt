-- The forms that are left grow fewer.
use Rattle.std.proofs.Common.{length}
use Rattle.arch_instructions.proofs.has.+any_does.Given as goal

abbrev pub decreases-any_does : goal.decreases-any_does
decreases-any_does l = length l.forms.now
