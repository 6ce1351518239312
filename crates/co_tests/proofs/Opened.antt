-- A cycle that is cut open has the threads, slots, directions, marks and links of the cycle.
use Rattle.co_tests.proofs.Vocabulary.{◌≡◌, ℕ, suc, ◌+◌, Bool, true, false, cond, List, [], ◌∷◌, length, take, refl, arith, ◌==◌, if◌then◌else◌, count_by, filter, sum_by-cons, upto, Edge, source_of, source_mark, is_external, is_diff, edge_at, external_count, thread_of, slot_of, events_in, event_before, event_after, edge_link, event_link, is_ordering, elsewhere, cut_open}

-- and so does an edge
pub source_same : (e : Edge) → source_of (elsewhere e) ≡ source_of e
source_same x = grind arith

pub source_mark_same : (e : Edge) → source_mark (elsewhere e) ≡ source_mark e
source_mark_same x = grind arith

pub external_same : (e : Edge) → is_external (elsewhere e) ≡ is_external e
external_same x = grind arith

pub link_same : (e : Edge) → edge_link (elsewhere e) ≡ edge_link e
link_same x = grind arith

-- an edge of a thread that is no communication leads elsewhere so
pub elsewhere_moves : (e : Edge) → is_ordering e ≡ true → is_diff (elsewhere e) ≡ true
elsewhere_moves x h = grind arith

-- what an edge elsewhere has too, each edge of the cycle has
pub same_at : {X : Type 0} (f : Edge → X) → ((e : Edge) → f (elsewhere e) ≡ f e) → (es : List Edge) (i : ℕ) → f (edge_at (cut_open es) i) ≡ f (edge_at es i)
same_at f h [] i = refl
same_at f h (e ∷ es) i = grind (arith, same_at f h es)

-- so as many edges pass such a test
count_same : (p : Edge → Bool) → ((e : Edge) → p (elsewhere e) ≡ p e) → (es : List Edge) → count_by p (cut_open es) ≡ count_by p es
count_same p h [] = refl
count_same p h (e ∷ es) = by_case (is_ordering e) (count_same p h es)
  where
    by_case : (b : Bool) → count_by p (cut_open es) ≡ count_by p es → count_by p (if b then elsewhere e ∷ es else e ∷ cut_open es) ≡ count_by p (e ∷ es)
    by_case true rest = grind (arith, elsewhere e, sum_by-cons)
    by_case false rest = omega (arith, rest, sum_by-cons (λ x. cond {A = ℕ} (p x) 1 0) e (cut_open es), sum_by-cons (λ x. cond {A = ℕ} (p x) 1 0) e es)

take_same : (p : Edge → Bool) → ((e : Edge) → p (elsewhere e) ≡ p e) → (es : List Edge) (i : ℕ) → count_by p (take i (cut_open es)) ≡ count_by p (take i es)
take_same p h (e ∷ es) (suc i) = by_case (is_ordering e) (take_same p h es i)
  where
    by_case : (b : Bool) → count_by p (take i (cut_open es)) ≡ count_by p (take i es)
        → count_by p (take (suc i) (if b then elsewhere e ∷ es else e ∷ cut_open es)) ≡ count_by p (take (suc i) (e ∷ es))
    by_case true rest = grind (arith, elsewhere e, sum_by-cons)
    by_case false rest = omega (
      arith,
      rest,
      sum_by-cons (λ x. cond {A = ℕ} (p x) 1 0) e (take i (cut_open es)),
      sum_by-cons (λ x. cond {A = ℕ} (p x) 1 0) e (take i es),
    )
take_same p h es i = grind arith

-- it has as many edges
pub opened-length : (es : List Edge) → length (cut_open es) ≡ length es
opened-length [] = refl
opened-length (e ∷ es) = grind (arith, opened-length es)

-- it has as many threads
pub opened-threads : (es : List Edge) → external_count (cut_open es) ≡ external_count es
opened-threads es = count_same is_external external_same es

-- each event is in its thread and its slot
pub opened_thread : (es : List Edge) (i : ℕ) → thread_of (cut_open es) i ≡ thread_of es i
unfolding thread_of
opened_thread es i = take_same is_external external_same es i

pub opened_slot : (es : List Edge) (i : ℕ) → slot_of (cut_open es) i ≡ slot_of es i
unfolding slot_of
opened_slot es i = λ t. count_by (λ j. opened_thread es j t == opened_thread es i t) (upto i)

pub opened_events : (es : List Edge) (k : ℕ) → events_in (cut_open es) k ≡ events_in es k
unfolding events_in
opened_events es k = λ t. filter (λ i. opened_thread es i t == k) (upto (opened-length es t))

before_same : (es : List Edge) (i : ℕ) → event_before (cut_open es) i ≡ event_before es i
before_same es i = grind (arith, opened-length)

-- the event after an event
pub opened_after : (es : List Edge) (i : ℕ) → event_after (cut_open es) i ≡ event_after es i
unfolding event_after
opened_after es i = λ t. if i + 1 == opened-length es t then 0 else i + 1

-- the link that ties an event to the one before it in its thread
pub opened_link : (es : List Edge) (i : ℕ) → event_link (cut_open es) i ≡ event_link es i
opened_link es i = grind (arith, same_at edge_link link_same es (event_before (cut_open es) i), link_same, before_same es i, opened_slot)
