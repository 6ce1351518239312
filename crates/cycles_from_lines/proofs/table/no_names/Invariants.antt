-- The loop of `no_names`: the entries so far have no name.
use Rattle.std.proofs.Common.{◌≡◌, List, [], take, map}
use Rattle.cycles_from_lines.specs.FamilyTables.{FamilyEntry, family_view}
use Rattle.cycles_from_lines.proofs.table.no_names.Given as goal

abbrev pub invariant-loop-family : goal.invariant-loop-family
invariant-loop-family l = ◌≡◌ {A = List FamilyEntry} (map family_view l.table.items) (map (λ f. (f, [])) (take l.family-index l.family-items))
