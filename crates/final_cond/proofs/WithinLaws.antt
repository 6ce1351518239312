-- An error lies within the text that is read.
use Rattle.std.proofs.Common.{◌≡◌, ℕ, zero, suc, ◌≤◌, List, [], ◌∷◌, length, subst, arith}
use Rattle.std.specs.{Prelude.{Bool, nat_eq, Option, Some, None, Result, Ok, Err, IfSome}, Char.{is_ascii_digit, is_ascii_alphanumeric}}
use Rattle.list_laws.proofs.Cases.{by_test}
use Rattle.final_cond.specs.{declared.cond.TheConstants.MAX_TERMS, declared.errors.CondKind.CondKind}
use Rattle.final_cond.specs.{declared.errors.CondKind.TheVariants.{BadQuantifier, BadTerm, BadValue}, declared.read.Follow.Follow}
use Rattle.final_cond.specs.Conditions.{LeftSeen, TermSeen, CondSeen}
use Rattle.final_cond.specs.ConditionReading.{Fault, ConditionRead, sign_at_start, sign_read, found, before_text, quantifier_of, quantifier_at_start, opening_read, bracket_closed, bracketed_at_start, register_of_thread, register_at_start, left_at_start, known_left, only_known, left_read, value_at_start, value_read, right_read, term_read, and_at_start, follow_at_start, follow_read, and_further, terms_read, end_at_start, parts_read}
use Rattle.final_cond.specs.declared.read.Follow.TheVariants as follows
use Rattle.text_parts.specs.{Names.is_place_byte, NumberTexts.number_of, LeadingRuns.{leading_run, after_run}, Blanks.{is_blank, unblanked}}
use Rattle.text_parts.specs.{ReadingSteps.◌>>=◌, Words.is_argument_byte}
use Rattle.text_parts.proofs.RunLaws.{after_run-le}

-- the text after what was read, or from the error on, has at most so many bytes
abbrev Stays : {A : Type 0} → (A → List ℕ) → ℕ → Result A Fault → Type 0
Stays rest n (Ok x) = length (rest x) ≤ n
Stays rest n (Err f) = length f.rest ≤ n

stays_then : {A B : Type 0} (rest : A → List ℕ) (rest' : B → List ℕ) (n : ℕ) (r : Result A Fault) (f : A → Result B Fault) → Stays rest n r → ((x : A) → length (rest x) ≤ n → Stays rest' n (f x)) → Stays rest' n (r >>= f)
stays_then rest rest' n (Ok x) f h k = k x h
stays_then rest rest' n (Err e) f h k = h

stays_wider : {A : Type 0} (rest : A → List ℕ) (m n : ℕ) (r : Result A Fault) → m ≤ n → Stays rest m r → Stays rest n r
stays_wider rest m n (Ok x) l h = omega arith
stays_wider rest m n (Err e) l h = omega arith

unblanked-le : (text : List ℕ) → length (unblanked text) ≤ length text
unblanked-le text = after_run-le is_blank text

sign_at_start_stays : (kind : CondKind) (sign : ℕ) (text : List ℕ) → Stays (λ x. x) (length text) (sign_at_start kind sign text)
sign_at_start_stays kind sign [] = omega arith
sign_at_start_stays kind sign (byte ∷ text) = by_test (nat_eq byte sign) (λ h. rw h (omega arith)) (λ h. rw h (omega arith))

sign_stays : (kind : CondKind) (sign : ℕ) (text : List ℕ) → Stays (λ x. x) (length text) (sign_read kind sign text)
unfolding sign_read
sign_stays kind sign text = stays_wider (λ x. x) (length (unblanked text)) (length text) (sign_at_start kind sign (unblanked text)) (unblanked-le text) (sign_at_start_stays kind sign (unblanked text))

found_stays : {A : Type 0} (kind : CondKind) (text : List ℕ) (o : Option (A × List ℕ)) → IfSome o (λ x. length x.1 ≤ length text) → Stays (λ x. x.1) (length text) (found kind text o)
found_stays kind text None h = omega arith
found_stays kind text (Some x) h = h

before_stays : {A : Type 0} (n : ℕ) (o : Option A) (rest : List ℕ) → length rest ≤ n → IfSome (before_text o rest) (λ x. length x.1 ≤ n)
before_stays n None rest h = tt
before_stays n (Some x) rest h = h

opening_stays : (text : List ℕ) → Stays (λ x. x.1) (length text) (opening_read text)
unfolding opening_read
opening_stays text =
    let u : length (unblanked text) ≤ length text = unblanked-le text in
    let q : Stays (λ x. x.1) (length (unblanked text)) (quantifier_at_start (unblanked text)) =
    found_stays BadQuantifier (unblanked text) (before_text (quantifier_of (leading_run is_argument_byte (unblanked text))) (after_run is_argument_byte (unblanked text)))
    (before_stays (length (unblanked text)) (quantifier_of (leading_run is_argument_byte (unblanked text))) (after_run is_argument_byte (unblanked text)) (after_run-le is_argument_byte (unblanked text))) in
    stays_then (λ x. x.1) (λ x. x.1) (length text) (quantifier_at_start (unblanked text)) _ (stays_wider (λ x. x.1) (length (unblanked text)) (length text) (quantifier_at_start (unblanked text)) u q)
    (λ x l. stays_then (λ y. y) (λ y. y.1) (length text) (sign_read BadQuantifier 40 x.1) _ (stays_wider (λ y. y) (length x.1) (length text) (sign_read BadQuantifier 40 x.1) l (sign_stays BadQuantifier 40 x.1)) (λ y k. k))

some_wider : {A : Type 0} (m n : ℕ) (o : Option (A × List ℕ)) → m ≤ n → IfSome o (λ x. length x.1 ≤ m) → IfSome o (λ x. length x.1 ≤ n)
some_wider m n None l h = tt
some_wider m n (Some x) l h = omega arith

closed_stays : (name text : List ℕ) → IfSome (bracket_closed name text) (λ x. length x.1 ≤ length text)
closed_stays name [] = tt
closed_stays name (byte ∷ rest) = by_test (nat_eq byte 93) (λ h. rw h (omega arith)) (λ h. rw h tt)

thread_stays : (thread : Option ℕ) (text : List ℕ) → IfSome (register_of_thread thread text) (λ x. length x.1 ≤ length text)
thread_stays None text = tt
thread_stays (Some thread) [] = tt
thread_stays (Some thread) (byte ∷ rest) =
    let k : length (after_run is_ascii_alphanumeric rest) ≤ length rest = after_run-le is_ascii_alphanumeric rest in
    by_test (nat_eq byte 58) (λ h. rw h (omega arith)) (λ h. rw h tt)

left_at_start_stays : (text : List ℕ) → IfSome (left_at_start text) (λ x. length x.1 ≤ length text)
unfolding left_at_start
left_at_start_stays [] = tt
left_at_start_stays (byte ∷ text) =
    by_test (nat_eq byte 91)
    (λ h. rw h (some_wider (length (after_run is_place_byte text)) (suc (length text)) (bracketed_at_start text) (let k : length (after_run is_place_byte text) ≤ length text = after_run-le is_place_byte text in omega arith) (closed_stays (leading_run is_place_byte text) (after_run is_place_byte text))))
    (λ h. rw h (by_test (is_ascii_digit byte)
    (λ d. rw d (some_wider (length (after_run is_ascii_digit (byte ∷ text))) (suc (length text)) (register_at_start (byte ∷ text)) (after_run-le is_ascii_digit (byte ∷ text)) (thread_stays (number_of (leading_run is_ascii_digit (byte ∷ text))) (after_run is_ascii_digit (byte ∷ text)))))
    (λ d. rw d (after_run-le is_place_byte (byte ∷ text)))))

known_stays : (known : LeftSeen → Bool) (n : ℕ) (o : Option (LeftSeen × List ℕ)) → IfSome o (λ x. length x.1 ≤ n) → IfSome (only_known known o) (λ x. length x.1 ≤ n)
known_stays known n None h = tt
known_stays known n (Some x) h = before_stays n (known_left known x.0) x.1 h

left_stays : (known : LeftSeen → Bool) (text : List ℕ) → Stays (λ x. x.1) (length text) (left_read known text)
unfolding left_read
left_stays known text = found_stays BadTerm text (only_known known (left_at_start text)) (known_stays known (length text) (left_at_start text) (left_at_start_stays text))

value_stays : (text : List ℕ) → Stays (λ x. x.1) (length text) (value_read text)
unfolding value_read
value_stays text =
    let u : List ℕ = unblanked text in
    stays_wider (λ x. x.1) (length u) (length text) (value_at_start u) (unblanked-le text)
    (found_stays BadValue u (before_text (number_of (leading_run is_ascii_digit u)) (after_run is_ascii_digit u)) (before_stays (length u) (number_of (leading_run is_ascii_digit u)) (after_run is_ascii_digit u) (after_run-le is_ascii_digit u)))

right_stays : (text : List ℕ) → Stays (λ x. x.1) (length text) (right_read text)
unfolding right_read
right_stays text =
    stays_then (λ x. x) (λ x. x.1) (length text) (sign_read BadTerm 61 text) _ (sign_stays BadTerm 61 text)
    (λ x k. stays_wider (λ z. z.1) (length x) (length text) (value_read x) k (value_stays x))

term_stays : (known : LeftSeen → Bool) (text : List ℕ) → Stays (λ x. x.1) (length text) (term_read known text)
unfolding term_read
term_stays known text =
    stays_then (λ x. x.1) (λ x. x.1) (length text) (left_read known (unblanked text)) _
    (stays_wider (λ x. x.1) (length (unblanked text)) (length text) (left_read known (unblanked text)) (unblanked-le text) (left_stays known (unblanked text)))
    (λ x l. stays_then (λ y. y.1) (λ y. y.1) (length text) (right_read x.1) _ (stays_wider (λ y. y.1) (length x.1) (length text) (right_read x.1) l (right_stays x.1)) (λ y k. k))

and_stays : (text rest : List ℕ) → length rest ≤ length text → Stays (λ x. x.1) (length text) (and_at_start text rest)
and_stays text [] l = omega arith
and_stays text (byte ∷ rest) l = by_test (nat_eq byte 92) (λ h. rw h (omega arith)) (λ h. rw h (omega arith))

follow_at_start_stays : (text : List ℕ) → Stays (λ x. x.1) (length text) (follow_at_start text)
follow_at_start_stays [] = omega arith
follow_at_start_stays (byte ∷ rest) =
    by_test (nat_eq byte 41) (λ h. rw h (omega arith))
    (λ h. rw h (by_test (nat_eq byte 47) (λ d. rw d (and_stays (byte ∷ rest) rest (omega arith))) (λ d. rw d (omega arith))))

follow_stays : (text : List ℕ) → Stays (λ x. x.1) (length text) (follow_read text)
unfolding follow_read
follow_stays text = stays_wider (λ x. x.1) (length (unblanked text)) (length text) (follow_at_start (unblanked text)) (unblanked-le text) (follow_at_start_stays (unblanked text))

further_stays : (term : TermSeen) (further : List ℕ → ConditionRead (List TermSeen)) (step : Follow) (rest : List ℕ) (n : ℕ) → length rest ≤ n → Stays (λ x. x.1) (length rest) (further rest) → Stays (λ x. x.1) n (and_further term further step rest)
further_stays term further follows.End rest n l h = l
further_stays term further follows.Term rest n l h =
    stays_then (λ x. x.1) (λ x. x.1) n (further rest) _ (stays_wider (λ x. x.1) (length rest) n (further rest) l h) (λ x k. k)

terms_stay : (known : LeftSeen → Bool) (room : ℕ) (text : List ℕ) → Stays (λ x. x.1) (length text) (terms_read known room text)
unfolding terms_read
terms_stay known zero text = stays_then (λ x. x.1) (λ x. x.1) (length text) (term_read known text) _ (term_stays known text) (λ x l. unblanked-le text)
terms_stay known (suc room) text =
    stays_then (λ x. x.1) (λ x. x.1) (length text) (term_read known text) _ (term_stays known text)
    (λ x l. stays_then (λ y. y.1) (λ y. y.1) (length text) (follow_read x.1) _ (stays_wider (λ y. y.1) (length x.1) (length text) (follow_read x.1) l (follow_stays x.1))
    (λ y k. further_stays x.0 (terms_read known room) y.0 y.1 (length text) k (terms_stay known room y.1)))

end_stays : (text : List ℕ) → Stays (λ x. x) (length text) (end_at_start text)
end_stays [] = omega arith
end_stays (byte ∷ rest) = omega arith

parts_stay : (known : LeftSeen → Bool) (text : List ℕ) → Stays (λ x. []) (length text) (parts_read known text)
unfolding parts_read
parts_stay known text =
    stays_then (λ x. x.1) (λ x. []) (length text) (opening_read text) _ (opening_stays text)
    (λ x l. stays_then (λ y. y.1) (λ y. []) (length text) (terms_read known MAX_TERMS x.1) _ (stays_wider (λ y. y.1) (length x.1) (length text) (terms_read known MAX_TERMS x.1) l (terms_stay known MAX_TERMS x.1))
    (λ y k. stays_then (λ z. z) (λ z. []) (length text) (end_at_start (unblanked y.1)) _
    (stays_wider (λ z. z) (length (unblanked y.1)) (length text) (end_at_start (unblanked y.1)) (let u : length (unblanked y.1) ≤ length y.1 = unblanked-le y.1 in omega arith) (end_stays (unblanked y.1)))
    (λ z m. omega arith)))

-- the text from an error on is no longer than the text
pub fault_within : (known : LeftSeen → Bool) (text : List ℕ) (f : Fault) → parts_read known text ≡ Err f → length f.rest ≤ length text
fault_within known text f e = subst (Stays {A = CondSeen} (λ x. []) (length text)) e (parts_stay known text)
