-- One word more is read: where it spells no edge or there is no room, nothing is.
use Rattle.cycle_names.proofs.{Vocabulary.{refl, sym, arith, eqb-true, Ok, Err, NotAName}, NameSteps.{spell_none, spell_full, spell_last, spell_more}}
use Rattle.cycle_names.proofs.read.+read_words.Goals as goal

pub returns-in_default : goal.returns-in_default
returns-in_default t c =
    spell_none {E = NotAName} c.args.text.now c.split_at.result.0.now c.len_before.result c.args.edges.now.items c.args.edges.now.items (Err (record {}))
    c.len_before.ensures.value c.split_at.ensures.front c.in_default.ensures

pub returns-then-is_full : goal.returns-then-is_full
returns-then-is_full t c =
    spell_full {E = NotAName} c.args.text.now c.args.edges.now.items c.args.edges.now.items (Err (record {})) (omega (arith, eqb-true _ _ (sym c.if-is_full.ensures.value)))

pub returns-in-empty : goal.returns-in-empty
returns-in-empty t c =
    spell_last {E = NotAName} c.args.text.now c.split_at.result.0.now c.split_at.result.1.now c.len_before.result c.in-Ok.edge c.args.edges.now.items c.push.new.self.items (Ok tt)
    c.len_before.ensures.value c.split_at.ensures.front c.split_at.ensures.back c.in-empty.len_below c.in-Ok.ensures c.push.ensures.items refl

pub returns-in-len1-up : goal.returns-in-len1-up
returns-in-len1-up t c =
    spell_more c.args.text.now c.split_at.result.0.now c.split_at.result.1.now c.len_before.result c.in-Ok.edge c.args.edges.now.items c.push.new.self.items c.read_words.new.edges.items c.read_words.result
    c.len_before.ensures.value c.split_at.ensures.front c.split_at.ensures.back c.in-len1-up.len_at_least c.in-Ok.ensures c.push.ensures.items c.read_words.ensures
