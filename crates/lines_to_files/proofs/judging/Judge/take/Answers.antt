-- That `take` keeps a name, and finds whether it is new.
use Rattle.std.proofs.Common.{refl, ap, ◌∙◌}
use Rattle.std.specs.{Prelude.not, List.list_any, Str.bytes_eq}
use Rattle.cycles_from_lines.specs.{Classified.with_cycle_name, KeptNames.names_in_set}
use Rattle.cycles_from_lines.proofs.NameSetLaws.{set_shown}
use Rattle.lines_to_files.proofs.NameSets.{sought}
use Rattle.lines_to_files.proofs.judging.Judge.take.Goals as goal

pub returns : goal.returns
returns c = record {
  new_is =
      c.in_ok-insert.ensures.added
      ∙ ap not (sought _ (λ x y. refl) c.in_ok-name.name c.args.self.now.taken.keys
      ∙ ap (λ name. list_any (bytes_eq name) (names_in_set c.args.self.now.taken)) c.in_ok-name.ensures.ok);
  taken =
      set_shown c.args.self.now.taken c.insert.new.self _ c.in_ok-name.name (λ x y. refl) c.in_ok-insert.ensures.keys
      ∙ ap (with_cycle_name (names_in_set c.args.self.now.taken)) c.in_ok-name.ensures.ok;
  names = refl;
  count = refl;
}
