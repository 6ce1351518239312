-- The last edge decides.
use Rattle.std.proofs.Common.{sym, ◌∙◌}
use Rattle.relax_edges.specs.EdgeTable.{is_of_arch}
use Rattle.tests_to_files.proofs.WantedCycles.{ends_at}
use Rattle.tests_to_files.proofs.wanted.ends_of_arch.Goals as goal

pub returns-in-len1-up : goal.returns-in-len1-up
returns-in-len1-up g c = c.supports.ensures ∙ sym (ends_at (λ edge. is_of_arch edge g.A.Arch.puts.name) c.args.edges.now _ c.in-len1-up.len_at_least)
