-- The law is its lemma.
use Rattle.tools_agree.proofs.SaidCycles as lemmas
use Rattle.tools_agree.proofs.files.texts_say_cycles.Goals as goal

pub returns : goal.returns
returns g c = lemmas.texts_say_cycles g.A.Arch.puts g.A.Arch.writing (lemmas.tests_say_cycles g.A.Arch.puts g.A.Arch.writing g.met.A.Arch.laws g.met.A.Arch.reads_back g.met.A.Arch.writes_cells g.met.A.Arch.makes_one_access)
