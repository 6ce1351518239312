-- The law is its lemma.
use Rattle.tools_agree.proofs.ShownExecutions as lemmas
use Rattle.tools_agree.proofs.verdicts.coherence_executions_exist.Goals as goal

pub returns : goal.returns
returns g c = lemmas.coherence_executions_exist g.A.Arch.puts g.A.Arch.writing g.met.A.Arch.laws g.met.A.Arch.reads_back g.met.A.Arch.writes_cells g.met.A.Arch.makes_one_access
