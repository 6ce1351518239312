-- That `write_last` writes nothing where there is no last cycle.
use Rattle.std.proofs.Common.{ap, sym, subst}
use Rattle.diy_io.specs.{Wrote.WroteAll, WroteLaws.nothing_wrote}
use Rattle.cycles_from_lines.specs.Normed.{last_lines}
use Rattle.cycles_from_lines.proofs.norm.write_last.Goals as goal

pub returns-in-None : goal.returns-in-None
returns-in-None g c =
    let seen = g.O.Sink.seen c.args.out.now in
    subst (WroteAll seen seen) (sym (ap last_lines c.in-None.is)) (nothing_wrote seen)
