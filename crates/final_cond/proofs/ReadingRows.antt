-- Texts and what the definition reads in them, worked out by hand from the rules.
use Rattle.std.proofs.Common.{◌≡◌, ℕ, List, [], ◌∷◌, ◌++◌, refl}
use Rattle.std.specs.{Prelude.{codes, Result, Ok, Err, map, replicate}, Fmt.digits, List.concat}
use Rattle.final_cond.specs.{declared.cond.Quantifier.TheVariants.{Exists, NotExists, Forall}, declared.errors.CondKind.CondKind}
use Rattle.final_cond.specs.{declared.errors.CondError.CondError, declared.errors.CondKind.TheVariants.{BadQuantifier, BadTerm, BadValue, BadEnd}}
use Rattle.final_cond.specs.Conditions.{InRegister, AtPlace, TermSeen, CondSeen}
use Rattle.final_cond.specs.ConditionReading.{sign_read, opening_read, left_at_start, left_read, value_read, right_read, term_read, follow_read, terms_read, parts_read, cond_read}
use Rattle.text_parts.specs.{Names.{is_place_name, is_register_name}, NumberTexts.number_of, LeadingRuns.{leading_run, after_run}}

abbrev place_is : List ℕ → ℕ → TermSeen
place_is name value = record { left = AtPlace name; value = value }

abbrev register_is : ℕ → List ℕ → ℕ → TermSeen
register_is thread name value = record { left = InRegister thread name; value = value }

abbrev bad : ℕ → CondKind → Result CondSeen CondError
bad place kind = Err (record { at = place; kind = kind })

abbrev exists_that : List TermSeen → Result CondSeen CondError
exists_that terms = Ok (record { quantifier = Exists; terms = terms })

good_texts : map cond_read (
    codes "exists (0:EAX=0 /\\ 1:EAX=0)"
    ∷ codes " ~exists(x = 1/\\[_y1]=2 /\\ 63:X0\t=3 )  "
    ∷ codes "forall\t(x=4294967295)"
    ∷ codes "exists (aaaabbbbccccdddd=0)"
    ∷ [])
    ≡ exists_that (register_is 0 (codes "EAX") 0 ∷ register_is 1 (codes "EAX") 0 ∷ [])
    ∷ Ok (record { quantifier = NotExists; terms = place_is (codes "x") 1 ∷ place_is (codes "_y1") 2 ∷ register_is 63 (codes "X0") 3 ∷ [] })
    ∷ Ok (record { quantifier = Forall; terms = place_is (codes "x") 4294967295 ∷ [] })
    ∷ exists_that (place_is (codes "aaaabbbbccccdddd") 0 ∷ [])
    ∷ []
unfolding digits is_place_name is_register_name number_of leading_run after_run sign_read opening_read left_at_start left_read value_read right_read term_read follow_read terms_read parts_read cond_read
good_texts = refl

bad_quantifiers : map cond_read (
    codes "" ∷ codes " \t" ∷ codes " exist (x=0)" ∷ codes "existsfoo (x=0)" ∷ codes "exists x=0" ∷ codes "exists" ∷ codes "exists  " ∷ codes " (x=0)"
    ∷ [])
    ≡ bad 0 BadQuantifier ∷ bad 2 BadQuantifier ∷ bad 1 BadQuantifier ∷ bad 0 BadQuantifier ∷ bad 7 BadQuantifier ∷ bad 6 BadQuantifier ∷ bad 8 BadQuantifier ∷ bad 1 BadQuantifier
    ∷ []
unfolding digits is_place_name is_register_name number_of leading_run after_run sign_read opening_read left_at_start left_read value_read right_read term_read follow_read terms_read parts_read cond_read
bad_quantifiers = refl

bad_terms : map cond_read (
    codes "exists ()" ∷ codes "exists (0: EAX=0)" ∷ codes "exists ( [ x ]=0)" ∷ codes "exists ([x=0)" ∷ codes "exists (64:EAX=0)" ∷ codes "exists (00:EAX=0)"
    ∷ codes "exists (0:1A=0)" ∷ codes "exists (0:=0)" ∷ codes "exists (x)" ∷ codes "exists (x y=0)" ∷ codes "exists (x-y=0)" ∷ codes "exists (x"
    ∷ codes "exists (aaaabbbbccccdddde=0)" ∷ codes "exists (x=0 /\\ )" ∷ codes "exists (=0)"
    ∷ [])
    ≡ bad 8 BadTerm ∷ bad 8 BadTerm ∷ bad 9 BadTerm ∷ bad 8 BadTerm ∷ bad 8 BadTerm ∷ bad 8 BadTerm
    ∷ bad 8 BadTerm ∷ bad 8 BadTerm ∷ bad 9 BadTerm ∷ bad 10 BadTerm ∷ bad 9 BadTerm ∷ bad 9 BadTerm
    ∷ bad 8 BadTerm ∷ bad 15 BadTerm ∷ bad 8 BadTerm
    ∷ []
unfolding digits is_place_name is_register_name number_of leading_run after_run sign_read opening_read left_at_start left_read value_read right_read term_read follow_read terms_read parts_read cond_read
bad_terms = refl

bad_values : map cond_read (
    codes "exists (x= )" ∷ codes "exists (x= 01)" ∷ codes "exists (x=4294967296)" ∷ codes "exists (x=-1)" ∷ codes "exists (x=" ∷ codes "exists (x=999999999999999999999999999)"
    ∷ [])
    ≡ bad 11 BadValue ∷ bad 11 BadValue ∷ bad 10 BadValue ∷ bad 10 BadValue ∷ bad 10 BadValue ∷ bad 10 BadValue
    ∷ []
unfolding digits is_place_name is_register_name number_of leading_run after_run sign_read opening_read left_at_start left_read value_read right_read term_read follow_read terms_read parts_read cond_read
bad_values = refl

bad_ends : map cond_read (
    codes "exists (x=1 y=2)" ∷ codes "exists (x=1 / \\ y=2)" ∷ codes "exists (x=1 /" ∷ codes "exists (x=1" ∷ codes "exists (x=1) y" ∷ codes "exists (x=1a)" ∷ codes "exists (x=1))"
    ∷ [])
    ≡ bad 12 BadEnd ∷ bad 12 BadEnd ∷ bad 12 BadEnd ∷ bad 11 BadEnd ∷ bad 13 BadEnd ∷ bad 11 BadEnd ∷ bad 12 BadEnd
    ∷ []
unfolding digits is_place_name is_register_name number_of leading_run after_run sign_read opening_read left_at_start left_read value_read right_read term_read follow_read terms_read parts_read cond_read
bad_ends = refl

many_terms : map cond_read (
    (codes "exists (" ++ concat (replicate 127 (codes "x=1/\\")) ++ codes "x=1)")
    ∷ (codes "exists (" ++ concat (replicate 128 (codes "x=1/\\")) ++ codes " x=1)")
    ∷ (codes "exists (" ++ concat (replicate 128 (codes "x=1/\\")) ++ codes " x=)")
    ∷ [])
    ≡ exists_that (replicate 128 (place_is (codes "x") 1))
    ∷ bad 649 BadEnd
    ∷ bad 651 BadValue
    ∷ []
unfolding digits is_place_name is_register_name number_of leading_run after_run sign_read opening_read left_at_start left_read value_read right_read term_read follow_read terms_read parts_read cond_read
many_terms = refl
