-- The coherence test of a cycle, under a name of a test's form, is within the limits of the format.
use Rattle.co_tests.proofs.Vocabulary.{◌≡◌, ℕ, suc, ◌+◌, ◌<◌, ◌≤◌, ◌==◌, Bool, true, false, cond, List, [], ◌∷◌, ◌++◌, length, map, Some, slice_get, refl, sym, ◌∙◌, ap, subst, arith, append-nil, length-append, ◌&&◌, ◌||◌, is_some, count_by, AllByRecursion, sum_by, eqb-true, le-leb, and_from, leb-true, length-map, sum_by-cons, count_by-le-length, length-filter, slice_get_within, bytes_eq-Decides, upto, by_test, all_append, sum_upto_same, classes_total, MAX_EDGES, Dir, ArchName, Kind, Avoid, Edge, kind_of, kind_source, kind_target, source_of, target_of, is_external, edge_at, external_count, move_count, thread_of, slot_of, events_in, event_after, event_in_slot, after_below, source_after, TermSeen, is_place_name, place_name_short, MAX_INSTRS, Step, WritesCells, MakesOneAccess, IsArch, InOrder, branches, letters, location_name, number_in, Writing, WritesBack, name_in, Puts, ThreadCode, compiled, is_load_dir, is_store_dir, loads_in, visits, compiled_ordered, compiled_accesses, length-letters, location_new, is_formed, thread_short, IsTestName, LinkFits, links_of, CodeFits, code_lands, IsReadable, TermFits, got_map, image_of, written_by, event_step, thread_steps, cycle_steps, plain, is_named_location, last_term, last_terms, load_terms, position_first, letter_at, load_terms-count, sum_map, thread_steps_at, by_steps, steps-count, steps_few, HasPlaces, code_fits, lands_once, links_fit, links_single, IsThreadCode, each_code, all_read_terms, numbers_small, all_links, AreShort, IsSmall, text_short, got_is, term_most, counted_one, cut_open, writes_in, coherence_steps, coherence_test_of, texts_short, registers_short, formed_terms, ordered_few}
use Rattle.relax_edges.specs.declared.kinds.Dir.TheVariants as dirs
use Rattle.relax_edges.specs.declared.kinds.Com.TheVariants as coms
use Rattle.relax_edges.specs.declared.kinds.Kind.TheVariants as kinds
use Rattle.co_tests.proofs.Opened.{source_same, same_at, opened-length, opened-threads, opened_thread}
use Rattle.co_tests.proofs.Values.{IsCut, one_move, one_location, write_count_is, value_positive, value_within, value_written}
use Rattle.co_tests.proofs.Events.{IsLoop, last_outside, thread_under, unobserved, none_observed, some_write, value_through}
use Rattle.co_tests.proofs.{Fits.loop_thread, ConditionMet.HasLoopCode, ConditionMet.ends_terms}

-- the names of the test's places
abbrev pub place_names : List Edge → List (List ℕ)
place_names es = letters (move_count (cut_open es))

-- the one place has a name
pub place_name : (es : List Edge) → IsCut es → slice_get (place_names es) 0 ≡ Some (location_name 0)
place_name es c = letter_at (move_count (cut_open es)) 0 (omega (arith, one_move es c))

-- which is found in each table that begins with it
pub first_found : (names : List (List ℕ)) (name : List ℕ) → slice_get names 0 ≡ Some name → number_in names name ≡ Some 0
first_found names name g = grind (arith, position_first, bytes_eq-Decides name name)

-- each access is at the one place
placed : (es : List Edge) (k j : ℕ) (ss : List Step) (s : Step) → IsCut es → slice_get (coherence_steps es) k ≡ Some ss → slice_get ss j ≡ Some s → s.place ≡ 0
placed es k j ss s c g h =
    by_steps (cut_open es) Avoid plain k ss g
    (λ l e. let i = image_of (event_step (cut_open es) plain) (events_in (cut_open es) k) j s (ap (λ x. slice_get x j) e ∙ h) in
    sym (ap (λ (x : Step). x.place) i.image) ∙ one_location es i.element c)
    (λ o. let f : false ≡ true = sym (unobserved (cut_open es) o.spot) ∙ o.observed in cc)

visited_zero : (ss : List Step) (place : ℕ) → ((j : ℕ) (s : Step) → slice_get ss j ≡ Some s → s.place ≡ 0) → visits place ss ≡ true → place ≡ 0
visited_zero [] place at v = cc v
visited_zero (s ∷ ss) place at v =
    by_test (s.place == place)
    (λ e. let same : s.place ≡ place = eqb-true s.place place e in sym same ∙ at 0 s refl)
    (λ e. visited_zero ss place (λ j t g. at (suc j) t g) (sym (ap (λ b. b || visits place ss) e) ∙ v))

has_places : (es : List Edge) (k : ℕ) (ss : List Step) → IsCut es → slice_get (coherence_steps es) k ≡ Some ss
    → HasPlaces (place_names es) (name_in (place_names es)) ss
has_places es k ss c g place v =
    let z : place ≡ 0 = visited_zero ss place (λ j s h. placed es k j ss s c g h) v in
    let name : name_in (place_names es) place ≡ location_name 0 = ap (name_in (place_names es)) z ∙ got_is (place_names es) 0 (location_name 0)
    (place_name es c) in
    subst (λ x. (is_place_name x && is_some (number_in (place_names es) x)) ≡ true) (sym name)
    (and_from (is_place_name (location_name 0)) (is_some (number_in (place_names es) (location_name 0))) (location_new 0 (omega arith)).formed
    (ap is_some (first_found (place_names es) (location_name 0) (place_name es c))))

-- the code of a thread of the test is that of a thread of the architecture
thread_is : (a : Puts) (es : List Edge) (k : ℕ) (ss : List Step) → IsArch a → HasLoopCode a es → slice_get (coherence_steps es) k ≡ Some ss → IsThreadCode a ss
thread_is a es k ss laws t g =
    let thread = loop_thread es plain a.name k ss t.loop_of g in
    record { thread = thread; formed = is_formed a laws ss thread.fit (t.room k ss g) }

code_short : (a : Puts) (es : List Edge) (k : ℕ) (ss : List Step) → IsArch a → HasLoopCode a es → slice_get (coherence_steps es) k ≡ Some ss
    → length (compiled a ss).instrs ≤ MAX_INSTRS
code_short a es k ss laws t g = grind (arith, thread_is a es k ss laws t g, thread_short)

thread_code_fits : (a : Puts) (es : List Edge) (k : ℕ) (ss : List Step) → IsArch a → MakesOneAccess a → HasLoopCode a es
    → slice_get (coherence_steps es) k ≡ Some ss → CodeFits a (place_names es) (name_in (place_names es)) 0 0 (compiled a ss).instrs
thread_code_fits a es k ss laws one t g =
    let c = thread_is a es k ss laws t g in
    let most = count_by-le-length (λ (s : Step). branches s.link) ss in
    code_fits a (place_names es) (name_in (place_names es)) ss 0 0 (compiled a ss).instrs
    (has_places es k ss t.loop_of.loop.is_cut g) c.formed.has c.formed.places
    (compiled_ordered a laws ss c.thread.fit (omega (arith, most, c.thread.few))) (omega (arith, compiled_accesses a one ss, c.thread.few))

thread_lands : (a : Puts) (es : List Edge) (k : ℕ) (ss : List Step) → IsArch a → HasLoopCode a es → slice_get (coherence_steps es) k ≡ Some ss
    → code_lands (compiled a ss).instrs (compiled a ss).instrs ≡ true
thread_lands a es k ss laws t g = grind (arith, thread_is a es k ss laws t g, lands_once)

all_links_fit : (a : Puts) (w : Writing) (es : List Edge) → IsArch a → WritesBack a w → HasLoopCode a es → length (coherence_steps es) ≤ MAX_EDGES
    → AllByRecursion (LinkFits w (place_names es) (name_in (place_names es))) (links_of 0 (map (compiled a) (coherence_steps es)))
all_links_fit a w es laws back t few =
    all_links (LinkFits w (place_names es) (name_in (place_names es))) 0 (map (compiled a) (coherence_steps es)) (λ k code g.
    let i = image_of (compiled a) (coherence_steps es) k code g in
    let c = thread_is a es k i.element laws t i.got in
    let within = slice_get_within (coherence_steps es) k i.element i.got in
    subst (λ (code : ThreadCode). AllByRecursion (LinkFits w (place_names es) (name_in (place_names es))) (map (λ link. (0 + k, link)) code.links)) i.image
    (links_fit w (place_names es) (name_in (place_names es)) i.element (0 + k) 0 (compiled a i.element).links
    (has_places es k i.element t.loop_of.loop.is_cut i.got) (omega (arith, within, few))
    (subst (λ n. InOrder 0 (compiled a i.element).links n) (sym back.count) c.formed.links) c.formed.addresses))

last_terms_fit : (w : Writing) (es : List Edge) (threads : ℕ) → IsCut es → writes_in es ≤ 2
    → AllByRecursion (TermFits w threads (place_names es)) (last_terms (cut_open es) Avoid)
last_terms_fit w es threads c few = subst (AllByRecursion (TermFits w threads (place_names es))) (sym (ends_terms es c))
    (by_case (is_named_location (cut_open es) Avoid 0))
  where
    by_case : (b : Bool) → AllByRecursion (TermFits w threads (place_names es)) (map (last_term (cut_open es)) (cond b (0 ∷ []) []))
    by_case false = tt
    by_case true = grind (arith, location_new, write_count_is es c, is_some, first_found (place_names es) (location_name 0) (place_name es c), place_name es c)

last_terms_few : (es : List Edge) → IsCut es → length (last_terms (cut_open es) Avoid) ≤ 1
last_terms_few es c = grind (arith, ends_terms es c)

-- how many accesses of a thread store
stores_in : List Step → ℕ
stores_in ss = count_by (λ s. is_store_dir s.dir) ss

-- each access loads or stores
loads_and_stores : (ss : List Step) → loads_in ss + stores_in ss ≡ length ss
unfolding stores_in
loads_and_stores [] = refl
loads_and_stores (s ∷ ss) =
    omega (
      arith,
      loads_and_stores ss,
      sum_by-cons (λ (t : Step). cond {A = ℕ} (is_load_dir t.dir) 1 0) s ss,
      sum_by-cons (λ (t : Step). cond {A = ℕ} (is_store_dir t.dir) 1 0) s ss,
      one s.dir,
    )
  where
    one : (d : Dir) → cond {A = ℕ} (is_load_dir d) 1 0 + cond {A = ℕ} (is_store_dir d) 1 0 ≡ 1
    one d = grind arith

sum_both : (threads : List (List Step)) → sum_by loads_in threads + sum_by stores_in threads ≡ sum_by length threads
sum_both [] = refl
sum_both (ss ∷ threads) = omega (
  arith,
  sum_both threads,
  loads_and_stores ss,
  sum_by-cons loads_in ss threads,
  sum_by-cons stores_in ss threads,
  sum_by-cons (λ (x : List Step). length x) ss threads,
)

-- the threads of the test are those of the cycle
threads_are : (es : List Edge) → coherence_steps es ≡ map (thread_steps (cut_open es) plain) (upto (external_count (cut_open es)))
unfolding cycle_steps
threads_are es = grind (arith, none_observed (cut_open es), append-nil (map (thread_steps (cut_open es) plain) (upto (external_count (cut_open es)))))

thread_size : (es : List Edge) (k : ℕ)
    → length (thread_steps (cut_open es) plain k) ≡ count_by (λ i. thread_of (cut_open es) i == k) (upto (length (cut_open es)))
unfolding events_in
thread_size es k = grind (arith, length-map, thread_of, length-filter)

-- they have as many accesses as there are edges
sum_sizes : (es : List Edge) → IsLoop es → sum_by length (coherence_steps es) ≡ length es
sum_sizes es r =
    ap (sum_by length) (threads_are es)
    ∙ sum_map length (thread_steps (cut_open es) plain) (upto (external_count (cut_open es)))
    ∙ sum_upto_same (λ k. length (thread_steps (cut_open es) plain k)) (λ k. count_by (λ i. thread_of (cut_open es) i == k) (upto (length (cut_open es))))
    (external_count (cut_open es)) (λ k h. thread_size es k)
    ∙ classes_total (thread_of (cut_open es)) (external_count (cut_open es)) (length (cut_open es)) (λ i h. omega
    (arith, thread_under es i r (omega (arith, h, opened-length es)), opened_thread es i, opened-threads es))
    ∙ opened-length es

-- an event by its thread and its slot
pub record IsStep (es : List Edge) (i : ℕ) : Type 0 where
  pub steps_at : slice_get (coherence_steps es) (thread_of (cut_open es) i) ≡ Some (thread_steps (cut_open es) plain (thread_of (cut_open es) i))
  pub step_at : slice_get (thread_steps (cut_open es) plain (thread_of (cut_open es) i)) (slot_of (cut_open es) i) ≡ Some (event_step (cut_open es) plain i)

-- each event is so
pub is_step : (es : List Edge) (i : ℕ) → IsLoop es → i < length es → IsStep es i
is_step es i r h = record {
  steps_at = grind (arith, thread_steps_at, thread_of (cut_open es) i, thread_under es i r h, opened_thread es i, opened-threads es);
  step_at = got_map (event_step (cut_open es) plain) (events_in (cut_open es) (thread_of (cut_open es) i)) (slot_of (cut_open es) i) i
      (event_in_slot (cut_open es) i (omega (arith, h, opened-length es)));
}

-- an event that reads is a load, one that writes a store
event_loads : (es : List Edge) (i : ℕ) → IsLoop es → i < length es → source_of (edge_at es i) ≡ dirs.R → 1 ≤ sum_by loads_in (coherence_steps es)
event_loads es i r h d = grind (arith, is_step es i r h, counted_one, thread_of (cut_open es) i, same_at source_of source_same es i, source_same, term_most)

event_stores : (es : List Edge) (i : ℕ) → IsLoop es → i < length es → source_of (edge_at es i) ≡ dirs.W → 1 ≤ sum_by stores_in (coherence_steps es)
unfolding stores_in
event_stores es i r h d = grind (arith, is_step es i r h, counted_one, thread_of (cut_open es) i, same_at source_of source_same es i, source_same, term_most)

-- the terms of the condition
abbrev loop_terms : Puts → (ℕ → List ℕ) → List Edge → List TermSeen
loop_terms a name es = last_terms (cut_open es) Avoid ++ load_terms a name 0 (coherence_steps es)

-- are at most as many as the edges
terms_few : (a : Puts) (name : ℕ → List ℕ) (es : List Edge) → IsLoop es → length (loop_terms a name es) ≤ length es
terms_few a name es r =
    let w = value_written es 0 r.is_cut (some_write es r) in
    omega (
      arith,
      length-append (last_terms (cut_open es) Avoid) (load_terms a name 0 (coherence_steps es)),
      last_terms_few es r.is_cut,
      load_terms-count a name 0 (coherence_steps es),
      sum_both (coherence_steps es),
      sum_sizes es r,
      event_stores es w.event r w.below w.writes,
    )

-- with two writes the last value is a term
last_term_there : (es : List Edge) → IsCut es → 2 ≤ writes_in es → 1 ≤ length (last_terms (cut_open es) Avoid)
last_term_there es c two = grind (arith, and_from, le-leb, write_count_is es c, unobserved (cut_open es) 0, ends_terms es c)

-- there is a term: the last edge leaves or enters a read, or it joins two writes
term_there : (a : Puts) (name : ℕ → List ℕ) (es : List Edge) (i : ℕ) → IsLoop es → i < length es → (k : Kind) → kind_of (edge_at es i) ≡ k
    → is_external (edge_at es i) ≡ true → 0 < length (loop_terms a name es)
term_there a name es i r h (kinds.Com coms.Rf reach) e t =
    omega (
      arith,
      length-append (last_terms (cut_open es) Avoid) (load_terms a name 0 (coherence_steps es)),
      load_terms-count a name 0 (coherence_steps es),
      event_loads es (event_after es i) r (after_below es i h) (source_after es i r.composes h ∙ ap kind_target e),
    )
term_there a name es i r h (kinds.Com coms.Fr reach) e t =
    omega (
      arith,
      length-append (last_terms (cut_open es) Avoid) (load_terms a name 0 (coherence_steps es)),
      load_terms-count a name 0 (coherence_steps es),
      event_loads es i r h (ap kind_source e),
    )
term_there a name es i r h (kinds.Com coms.Ws reach) e t =
    let first = value_positive es i r.is_cut h (ap kind_source e) in
    let next = value_through es i coms.Ws reach r h e in
    let one : written_by (target_of (edge_at es i)) ≡ 1 = ap written_by (ap kind_target e) in
    omega (
      arith,
      length-append (last_terms (cut_open es) Avoid) (load_terms a name 0 (coherence_steps es)),
      last_term_there es r.is_cut (omega (arith, first, next, one, value_within es (event_after es i) r.is_cut (after_below es i h))),
    )
term_there a name es i r h k e t = let f = rw e at t in cc

some_term : (a : Puts) (name : ℕ → List ℕ) (es : List Edge) → IsLoop es → 0 < length (loop_terms a name es)
some_term a name es r = grind (arith, term_there, last_outside)

names_short : (es : List Edge) → IsCut es → AreShort (place_names es)
names_short es c = grind (arith, one_move es c, place_name_short, location_new)

-- the coherence test of a cycle, under a name of a test's form, is within the limits of the format
pub readable : (a : Puts) (arch : ArchName) (w : Writing) (name : List ℕ) (es : List Edge) → IsArch a → WritesBack a w → WritesCells a w → MakesOneAccess a
    → IsTestName name → HasLoopCode a es
    → IsReadable a arch w name (coherence_test_of a (name_in w.registers) es)
readable a arch w name es laws back cells one named t = record {
  named = named;
  short = text_short arch w name (coherence_test_of a (name_in w.registers) es) (leb-true (length name) 800 named.short) loop.composes.few
      (omega (arith, threads, steps, loop.composes.few)) (registers_short w.registers back.formed)
      (names_short es c) small (formed_terms w (length (map (compiled a) (coherence_steps es))) (place_names es)
      (loop_terms a (name_in w.registers) es) terms) terms_number;
  threads_some = omega (arith, threads, steps-count (cut_open es) Avoid plain, opened-threads es, loop.threads);
  threads_few = omega (arith, threads, steps, loop.composes.few);
  places_few = omega (arith, length-letters (move_count (cut_open es)), one_move es c);
  rows_few = each_code a (cut_open es) Avoid (λ code. length code.instrs ≤ 1024) (λ k ss g. omega (arith, code_short a es k ss laws t g));
  codes = each_code a (cut_open es) Avoid (λ code. CodeFits a (place_names es) (name_in (place_names es)) 0 0 code.instrs)
      (λ k ss g. thread_code_fits a es k ss laws one t g);
  lands = each_code a (cut_open es) Avoid (λ code. code_lands code.instrs code.instrs ≡ true) (λ k ss g. thread_lands a es k ss laws t g);
  links = all_links_fit a w es laws back t (omega (arith, steps, loop.composes.few));
  links_single = links_single a.registers (map (compiled a) (coherence_steps es)) (each_code a (cut_open es) Avoid (λ code. InOrder 0 code.links a.registers)
      (λ k ss g. (thread_is a es k ss laws t g).formed.links));
  terms_some = some_term a (name_in w.registers) es loop;
  terms_few = omega (arith, terms_number);
  terms = terms;
}
  where
    loop : IsLoop es
    loop = t.loop_of.loop

    c : IsCut es
    c = loop.is_cut

    threads : length (map (compiled a) (coherence_steps es)) ≡ length (coherence_steps es)
    threads = length-map (coherence_steps es) (compiled a)

    steps : length (coherence_steps es) ≤ length es
    steps = omega (arith, steps_few (cut_open es) Avoid plain, opened-length es)

    terms_number : length (loop_terms a (name_in w.registers) es) ≤ MAX_EDGES
    terms_number = omega (arith, terms_few a (name_in w.registers) es loop, loop.composes.few)

    small : AllByRecursion (IsSmall w (place_names es)) (map (compiled a) (coherence_steps es))
    small = each_code a (cut_open es) Avoid (IsSmall w (place_names es)) (λ k ss g. record {
      links = omega (arith, ordered_few 0 (compiled a ss).links a.registers (thread_is a es k ss laws t g).formed.links, laws.few);
      code = code_short a es k ss laws t g;
      texts = texts_short a w (place_names es) (name_in (place_names es)) 0 0 (compiled a ss).instrs cells (thread_code_fits a es k ss laws one t g);
    })

    terms : AllByRecursion (TermFits w (length (map (compiled a) (coherence_steps es))) (place_names es)) (loop_terms a (name_in w.registers) es)
    terms =
        all_append (TermFits w (length (map (compiled a) (coherence_steps es))) (place_names es)) (last_terms (cut_open es) Avoid)
        (load_terms a (name_in w.registers) 0 (coherence_steps es))
        (last_terms_fit w es (length (map (compiled a) (coherence_steps es))) c t.loop_of.few_writes)
        (all_read_terms a w (place_names es) (length (map (compiled a) (coherence_steps es))) 0 (coherence_steps es) back (omega (arith, threads))
        (omega (arith, threads, steps, loop.composes.few)) (λ k ss g.
        let d = thread_is a es k ss laws t g in (d.formed.loads, numbers_small a.name false ss d.thread.fit)))
