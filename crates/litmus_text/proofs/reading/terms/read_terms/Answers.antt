-- The terms of a condition are read one after another, up to the `)`.
use Rattle.litmus_text.proofs.Vocabulary.{Err, MAX_TERMS, [], ap, arith, eqb-false, eqb-true, false, fault_view, length, map, map_push, mentioned_seen, nat_eq, setting_seen, sym, term_read_seen, term_view, terms_here, ℕ, ◌++◌, ◌+◌, ◌-◌, ◌∙◌, ◌∷◌, ◌≡◌, ◌≢◌, ◌≤◌}
use Rattle.litmus_text.proofs.TermLoops.{stops_at_term, stops_at_full, stops_at_follow, ends_at_follow, goes_on}
use Rattle.litmus_text.proofs.reading.terms.read_terms.Goals as goal

room_left : (n m : ℕ) → nat_eq n MAX_TERMS ≡ false → n ≤ MAX_TERMS → m ≡ n + 1 → MAX_TERMS - n ≡ (MAX_TERMS - m) + 1
room_left n m h k e = let ne : n ≢ MAX_TERMS = eqb-false n MAX_TERMS h in omega arith

pub returns-in-Err : goal.returns-in-Err
returns-in-Err g c =
    stops_at_term g.A.Arch.writing (setting_seen c.args.here.now) (MAX_TERMS - length c.terms.terms.items) (mentioned_seen c.terms.mentioned) c.terms.rest.now (map term_view c.terms.terms.items) c.in-Err.fault
    (terms_here g.A.Arch.writing (setting_seen c.args.here.now) MAX_TERMS (mentioned_seen c.args.mentioned.now) c.args.text.now) c.in-Err.ensures c.terms.invariant

pub returns-then-is_full : goal.returns-then-is_full
returns-then-is_full g c =
    let n : length c.terms.terms.items ≡ MAX_TERMS = eqb-true (length c.terms.terms.items) MAX_TERMS (sym c.if-is_full.ensures.value) in
    stops_at_full g.A.Arch.writing (setting_seen c.args.here.now) (MAX_TERMS - length c.terms.terms.items) (mentioned_seen c.terms.mentioned) c.terms.rest.now (map term_view c.terms.terms.items)
    (term_read_seen c.read_term.new.mentioned c.in-Ok.term)
    (terms_here g.A.Arch.writing (setting_seen c.args.here.now) MAX_TERMS (mentioned_seen c.args.mentioned.now) c.args.text.now) (omega arith) c.in-Ok.ensures c.terms.invariant
    ∙ ap Err (sym c.error_at_line.ensures)

pub terms-preserved : goal.terms-preserved
terms-preserved g c =
    let f : map term_view c.push.new.self.items ≡ map term_view c.terms.terms.items ++ term_view c.in-Ok.term.0 ∷ [] = rw c.push.ensures.items (map_push term_view c.terms.terms.items c.in-Ok.term.0) in
    goes_on g.A.Arch.writing (setting_seen c.args.here.now) (MAX_TERMS - length c.terms.terms.items) (MAX_TERMS - length c.push.new.self.items) (mentioned_seen c.terms.mentioned) c.terms.rest.now
    (map term_view c.terms.terms.items) (map term_view c.push.new.self.items) (term_read_seen c.read_term.new.mentioned c.in-Ok.term) c.in-Ok-Term-default.field-0-0 c.in-Ok-Term-default.remainder.now
    (terms_here g.A.Arch.writing (setting_seen c.args.here.now) MAX_TERMS (mentioned_seen c.args.mentioned.now) c.args.text.now)
    (room_left (length c.terms.terms.items) (length c.push.new.self.items) (sym c.if-is_full.ensures.value) c.if-is_full.ensures.fits c.push.ensures.len)
    f c.in-Ok.ensures c.in-Ok-Term-default.ensures c.in-Ok-Term-default.field-0-0-is c.terms.invariant

pub returns-in-Ok-End-default : goal.returns-in-Ok-End-default
returns-in-Ok-End-default g c =
    let f : map term_view c.push.new.self.items ≡ map term_view c.terms.terms.items ++ term_view c.in-Ok.term.0 ∷ [] = rw c.push.ensures.items (map_push term_view c.terms.terms.items c.in-Ok.term.0) in
    let r : MAX_TERMS - length c.terms.terms.items ≡ (MAX_TERMS - length c.push.new.self.items) + 1 =
    room_left (length c.terms.terms.items) (length c.push.new.self.items) (sym c.if-is_full.ensures.value) c.if-is_full.ensures.fits c.push.ensures.len in
    ends_at_follow g.A.Arch.writing (setting_seen c.args.here.now) (MAX_TERMS - length c.terms.terms.items) (mentioned_seen c.terms.mentioned) c.terms.rest.now
    (map term_view c.terms.terms.items) (map term_view c.push.new.self.items) (term_read_seen c.read_term.new.mentioned c.in-Ok.term) c.in-Ok-End-default.field-0-0 c.in-Ok-End-default.remainder.now
    (terms_here g.A.Arch.writing (setting_seen c.args.here.now) MAX_TERMS (mentioned_seen c.args.mentioned.now) c.args.text.now)
    (omega arith) f c.in-Ok.ensures c.in-Ok-End-default.ensures c.in-Ok-End-default.field-0-0-is c.terms.invariant

pub returns-in-Err-read_follow : goal.returns-in-Err-read_follow
returns-in-Err-read_follow g c =
    let r : MAX_TERMS - length c.terms.terms.items ≡ (MAX_TERMS - length c.push.new.self.items) + 1 =
    room_left (length c.terms.terms.items) (length c.push.new.self.items) (sym c.if-is_full.ensures.value) c.if-is_full.ensures.fits c.push.ensures.len in
    stops_at_follow g.A.Arch.writing (setting_seen c.args.here.now) (MAX_TERMS - length c.terms.terms.items) (mentioned_seen c.terms.mentioned) c.terms.rest.now (map term_view c.terms.terms.items)
    (term_read_seen c.read_term.new.mentioned c.in-Ok.term) (fault_view c.in-Err-read_follow.field-0)
    (terms_here g.A.Arch.writing (setting_seen c.args.here.now) MAX_TERMS (mentioned_seen c.args.mentioned.now) c.args.text.now) (omega arith) c.in-Ok.ensures c.in-Err-read_follow.ensures c.terms.invariant
    ∙ ap Err (sym c.error_at_line-in-Err-read_follow.ensures)
