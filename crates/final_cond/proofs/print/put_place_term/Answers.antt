-- A short term on a place is put in one piece.
use Rattle.std.proofs.Common.{arith}
use Rattle.final_cond.proofs.TermText.{short_place_term}
use Rattle.final_cond.proofs.print.put_place_term.Goals as goal

pub returns-then-value-lt10-clause-text : goal.returns-then-value-lt10-clause-text
returns-then-value-lt10-clause-text c =
    short_place_term c.args.value c.args.name.now c.args.page.now c.put_fixed.new.self c.if-value-lt10.true (omega arith) c.put_fixed.ensures
