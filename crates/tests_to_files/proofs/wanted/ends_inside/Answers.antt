-- The last edge decides.
use Rattle.std.proofs.Common.{not, sym, ◌∙◌, ap}
use Rattle.relax_edges.specs.EdgeTable.{is_external}
use Rattle.tests_to_files.proofs.WantedCycles.{ends_at}
use Rattle.tests_to_files.proofs.wanted.ends_inside.Goals as goal

pub returns-in-len1-up : goal.returns-in-len1-up
returns-in-len1-up c = ap not c.is_external.ensures ∙ sym (ends_at (λ edge. not (is_external edge)) c.args.edges.now _ c.in-len1-up.len_at_least)
