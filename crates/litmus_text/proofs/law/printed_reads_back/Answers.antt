-- The law of reading back holds for each architecture.
use Rattle.litmus_text.proofs.MentionedBack.{reads_back}
use Rattle.litmus_text.proofs.law.printed_reads_back.Goals as goal

pub returns : goal.returns
returns g c = λ name test h. reads_back g.A.Arch.puts g.A.Arch.NAME g.A.Arch.writing name test g.met.A.Arch.reads_back g.met.A.Arch.writes_cells h
