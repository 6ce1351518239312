-- The law is its lemma.
use Rattle.tools_agree.proofs.ClassifiedFiles as lemmas
use Rattle.tools_agree.proofs.SaidCycles.{tests_say_cycles}
use Rattle.tools_agree.proofs.files.files_are_classified.Goals as goal

pub returns : goal.returns
returns g c = lemmas.files_are_classified g.A.Arch.puts g.A.Arch.writing (tests_say_cycles g.A.Arch.puts g.A.Arch.writing g.met.A.Arch.laws g.met.A.Arch.reads_back g.met.A.Arch.writes_cells g.met.A.Arch.makes_one_access)
