-- The law of the bold arrows.
use Rattle.exec_check.proofs.QuotedArrows.{quoted_arrows_law}
use Rattle.exec_check.proofs.law.quoted_arrows.Goals as goal

pub returns : goal.returns
returns c = quoted_arrows_law
