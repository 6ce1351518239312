-- That `read_terms` reads the terms of a condition, or finds the first error.
use Rattle.std.proofs.{Common.{◌≡◌, ◌≢◌, ◌≤◌, ◌+◌, ◌-◌, ◌++◌, ℕ, false, nat_eq, refl, ◌∷◌, [], map, length, ◌∙◌, sym, arith}, lemmas.Bool.{eqb-true, eqb-false}}
use Rattle.std.proofs.{lemmas.List.map_push, lemmas.Result.err_from_is_err_and}
use Rattle.final_cond.specs.{declared.cond.TheConstants.MAX_TERMS, Conditions.term_view, ConditionAnswers.{fault_view, term_and_rest}}
use Rattle.final_cond.specs.ConditionReading.{has_form, terms_read}
use Rattle.final_cond.proofs.TermLaws.{stops_at_term, stops_at_full, stops_at_follow, ends_at_follow, goes_on}
use Rattle.final_cond.proofs.read.read_terms.Goals as goal

room_left : (n m : ℕ) → nat_eq n MAX_TERMS ≡ false → n ≤ MAX_TERMS → m ≡ n + 1 → MAX_TERMS - n ≡ (MAX_TERMS - m) + 1
room_left n m h k e = let ne : n ≢ MAX_TERMS = eqb-false n MAX_TERMS h in omega arith

pub returns-in-Err : goal.returns-in-Err
returns-in-Err c =
    stops_at_term has_form (MAX_TERMS - length c.terms.terms.items) c.terms.rest.now (map term_view c.terms.terms.items) (fault_view c.in-Err.fault)
    (terms_read has_form MAX_TERMS c.args.text.now) c.in-Err.ensures c.terms.invariant

pub returns-then-is_full : goal.returns-then-is_full
returns-then-is_full c =
    let n : length c.terms.terms.items ≡ MAX_TERMS = eqb-true (length c.terms.terms.items) MAX_TERMS (sym c.if-is_full.ensures.value) in
    stops_at_full has_form (MAX_TERMS - length c.terms.terms.items) c.terms.rest.now (map term_view c.terms.terms.items) (term_and_rest c.in-Ok.term)
    (terms_read has_form MAX_TERMS c.args.text.now) (omega arith) c.in-Ok.ensures c.terms.invariant ∙ rw c.without_blanks.ensures.text refl

pub returns-in_err-remainder : goal.returns-in_err-remainder
returns-in_err-remainder c =
    let p = err_from_is_err_and c.from_residual.result c.from_residual.ensures.1 in
    let r : MAX_TERMS - length c.terms.terms.items ≡ (MAX_TERMS - length c.push.new.self.items) + 1 = room_left (length c.terms.terms.items) (length c.push.new.self.items) (sym c.if-is_full.ensures.value) c.if-is_full.ensures.fits c.push.ensures.len in
    rw (p.1, p.2) (stops_at_follow has_form (MAX_TERMS - length c.terms.terms.items) c.terms.rest.now (map term_view c.terms.terms.items) (term_and_rest c.in-Ok.term) (fault_view c.in_err-remainder.field-0.0)
    (terms_read has_form MAX_TERMS c.args.text.now) (omega arith) c.in-Ok.ensures c.in_err-remainder.ensures c.terms.invariant)

pub terms-preserved : goal.terms-preserved
terms-preserved c =
    let f : map term_view c.push.new.self.items ≡ map term_view c.terms.terms.items ++ term_view c.in-Ok.term.0 ∷ [] = rw c.push.ensures.items (map_push term_view c.terms.terms.items c.in-Ok.term.0) in
    goes_on has_form (MAX_TERMS - length c.terms.terms.items) (MAX_TERMS - length c.push.new.self.items) c.terms.rest.now (map term_view c.terms.terms.items) (map term_view c.push.new.self.items)
    (term_and_rest c.in-Ok.term) c.in_ok-remainder.field-0.0 c.in_ok-remainder.field-0.1.now (terms_read has_form MAX_TERMS c.args.text.now)
    (room_left (length c.terms.terms.items) (length c.push.new.self.items) (sym c.if-is_full.ensures.value) c.if-is_full.ensures.fits c.push.ensures.len)
    f c.in-Ok.ensures c.in_ok-remainder.ensures c.in-Term-default.is-0 c.terms.invariant

pub returns-in-End-default : goal.returns-in-End-default
returns-in-End-default c =
    let f : map term_view c.push.new.self.items ≡ map term_view c.terms.terms.items ++ term_view c.in-Ok.term.0 ∷ [] = rw c.push.ensures.items (map_push term_view c.terms.terms.items c.in-Ok.term.0) in
    let r : MAX_TERMS - length c.terms.terms.items ≡ (MAX_TERMS - length c.push.new.self.items) + 1 = room_left (length c.terms.terms.items) (length c.push.new.self.items) (sym c.if-is_full.ensures.value) c.if-is_full.ensures.fits c.push.ensures.len in
    ends_at_follow has_form (MAX_TERMS - length c.terms.terms.items) c.terms.rest.now (map term_view c.terms.terms.items) (map term_view c.push.new.self.items)
    (term_and_rest c.in-Ok.term) c.in_ok-remainder.field-0.0 c.in_ok-remainder.field-0.1.now (terms_read has_form MAX_TERMS c.args.text.now)
    (omega arith) f c.in-Ok.ensures c.in_ok-remainder.ensures c.in-End-default.is-0 c.terms.invariant
