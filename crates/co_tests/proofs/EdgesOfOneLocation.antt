-- All edges of a cycle over one location stand in each execution of its coherence test that has the stated values: the code
-- marks the accesses and ties them as the edges say, and there is nothing else.
use Rattle.co_tests.proofs.Vocabulary.{◌≡◌, ℕ, suc, ◌+◌, ◌-◌, ◌<◌, false, List, [], length, take, Some, slice_get, refl, sym, ◌∙◌, ap, subst, arith, add-one, length-map, slice_get_within, ArchName, Avoid, Edge, kind_of, source_of, source_mark, is_external, edge_at, external_count, move_count, thread_of as event_thread, slot_of, events_in, event_after, event_in_slot, slot_of_event, after_below, mark_after, only_in_slot, Step, Plain, edge_link, ThreadCode, loads_in, control_after, thread_items, Visit, at_name, accesses_of, barriers_after, reads_among, reads_before, Execution, IsNumbering, event_access, event_at, Program, IsCandidate, visits_in, accesses_in, items_in, NamedAccess, access_at, IsEvent, StartsFree, HasEvents, AllStand, TiesBy, event_name, values_read, got_below, got_map, image_of, access_of_visit, event_link, event_step, thread_steps, cycle_steps, thread_from, program_of, thread_steps_at, steps-count, Before, link_between, link_first, thread_visits, ends_free, visit_at, visits-count, starts_free, ties, next_follows, candidate_enough, candidate_lists, external_ties, AreCodesOf, DidThread, did_thread, ThreadOf, items_below, visits_below, cut_open}
use Rattle.tests_force_cycles.proofs.ThreadRuns.{thread_of}
use Rattle.co_tests.proofs.Opened.{source_same, source_mark_same, link_same, same_at, opened-length, opened-threads, opened_thread, opened_events}
use Rattle.co_tests.proofs.Events.{IsLoop, loop_accesses, loop_execution, thread_under, opened_name, event_there, none_observed, internal_follows, loop_joins}
use Rattle.co_tests.proofs.Fits.{IsLoopOf, before_event, event_fits, thread_fits}

-- the program of the test with some codes
abbrev loop_program : List ThreadCode → List Edge → Program
loop_program codes es = program_of codes (move_count (cut_open es))

-- what is supposed: a candidate execution of a program whose code makes the accesses of the test
pub record IsRun (arch : ArchName) (codes : List ThreadCode) (es : List Edge) (number : ℕ → ℕ) (x : Execution) : Type 0 where
  pub loop_of : IsLoopOf arch es
  pub codes_of : AreCodesOf codes (cycle_steps (cut_open es) Avoid number)
  pub candidate : IsCandidate (loop_program codes es) x

-- what the run of a thread made
thread_did : (arch : ArchName) (codes : List ThreadCode) (es : List Edge) (number : ℕ → ℕ) (x : Execution) (k : ℕ) → IsRun arch codes es number x
    → (t : ThreadOf (cycle_steps (cut_open es) Avoid number) x k) → DidThread codes (move_count (cut_open es)) x k t.steps t.reads
thread_did arch codes es number x k r t =
    grind (arith, did_thread, candidate_enough codes (cut_open es) Avoid number x r.codes_of r.candidate k t.steps t.reads t.steps_at t.reads_at)

-- a thread of the cycle: what it reads and made
record Made (codes : List ThreadCode) (es : List Edge) (number : ℕ → ℕ) (x : Execution) (k : ℕ) : Type 0 where
  reads : List ℕ
  visits_are : slice_get (visits_in (loop_program codes es) x) k ≡ Some (thread_visits (thread_steps (cut_open es) number k) 0 0 reads)
  items_are : slice_get (items_in (loop_program codes es) x) k ≡ Some (thread_items (thread_steps (cut_open es) number k) 0 0 reads)

made : (arch : ArchName) (codes : List ThreadCode) (es : List Edge) (number : ℕ → ℕ) (x : Execution) (k : ℕ) → IsRun arch codes es number x
    → k < external_count es → Made codes es number x k
made arch codes es number x k r h =
    let stands = thread_steps_at (cut_open es) Avoid number k (omega (arith, h, opened-threads es)) in
    let t = thread_of (cycle_steps (cut_open es) Avoid number) x k (candidate_lists codes (cut_open es) Avoid number x r.codes_of r.candidate)
    (slice_get_within (cycle_steps (cut_open es) Avoid number) k (thread_steps (cut_open es) number k) stands) in
    let d = thread_did arch codes es number x k r (record {
      steps = thread_steps (cut_open es) number k;
      reads = t.reads;
      steps_at = stands;
      reads_at =
          t.reads_at;
    }) in
    record { reads = values_read t.reads; visits_are = d.visits_are; items_are = d.items_are }

-- the test has the cycle's threads alone
codes-count : (arch : ArchName) (codes : List ThreadCode) (es : List Edge) (number : ℕ → ℕ) (x : Execution) → IsRun arch codes es number x
    → length codes ≡ external_count es
codes-count arch codes es number x r = grind (arith, steps-count (cut_open es) Avoid number, none_observed (cut_open es), opened-threads es)

-- an event of the cycle is one of the cut cycle
opened_event : (es : List Edge) (visits : List (List Visit)) (i : ℕ) (e : NamedAccess) → IsEvent es visits i e → IsEvent (cut_open es) visits i e
opened_event es visits i e v = grind (arith, opened_name es i, same_at source_of source_same es i, source_same)

-- an event is at its slot among the visits of its thread
event_visit : (es : List Edge) (visits : List (List Visit)) (i : ℕ) (e : NamedAccess) (k j : ℕ) (thread : List Visit) → IsEvent (cut_open es) visits i e
    → event_thread (cut_open es) i ≡ k → slot_of (cut_open es) i ≡ j → slice_get visits k ≡ Some thread → slice_get thread j ≡ Some e.visit
event_visit es visits i e k j thread v t s g = grind arith

-- the step of an event
step_there : (es : List Edge) (number : ℕ → ℕ) (i : ℕ) → i < length es
    → slice_get (thread_steps (cut_open es) number (event_thread (cut_open es) i)) (slot_of (cut_open es) i) ≡ Some (event_step (cut_open es) number i)
step_there es number i h =
    got_map (event_step (cut_open es) number) (events_in (cut_open es) (event_thread (cut_open es) i)) (slot_of (cut_open es) i) i
    (event_in_slot (cut_open es) i (omega (arith, h, opened-length es)))

opened_under : (es : List Edge) (i : ℕ) → IsLoop es → i < length es → event_thread (cut_open es) i < external_count es
opened_under es i r h = omega (arith, thread_under es i r h, opened_thread es i)

-- an event has the mark of what its edge leaves
event_mark : (arch : ArchName) (codes : List ThreadCode) (es : List Edge) (number : ℕ → ℕ) (x : Execution) (i : ℕ) (e : NamedAccess)
    → IsRun arch codes es number x → i < length es → IsEvent es (visits_in (loop_program codes es) x) i e → e.visit.mark ≡ source_mark (edge_at es i)
event_mark arch codes es number x i e r h u =
    let k = event_thread (cut_open es) i in
    let d = made arch codes es number x k r (opened_under es i r.loop_of.loop h) in
    let visit = event_visit es (visits_in (loop_program codes es) x) i e k (slot_of (cut_open es) i) (thread_visits
    (thread_steps (cut_open es) number k) 0 0 d.reads) (opened_event es (visits_in (loop_program codes es) x) i e u) refl refl d.visits_are in
    let there = visit_at (thread_steps (cut_open es) number k) 0 0 d.reads (slot_of (cut_open es) i) (event_step (cut_open es) number i) e.visit
    (step_there es number i h) visit in
    ap (λ (y : Visit). y.mark) there.is ∙ same_at source_mark source_mark_same es i

-- the event that an internal edge enters, by its slot
record IsNext (es : List Edge) (number : ℕ → ℕ) (i : ℕ) : Type 0 where
  before : Before (cut_open es) (event_after es i)
  edge : before.event ≡ i
  thread : event_thread (cut_open es) (event_after es i) ≡ event_thread (cut_open es) i
  slot : slot_of (cut_open es) (event_after es i) ≡ suc (slot_of (cut_open es) i)
  step : slice_get (thread_steps (cut_open es) number (event_thread (cut_open es) i)) (suc (slot_of (cut_open es) i)) ≡ Some
      (event_step (cut_open es) number (event_after es i))

is_next : (es : List Edge) (number : ℕ → ℕ) (i : ℕ) → IsLoop es → i < length es → is_external (edge_at es i) ≡ false → IsNext es number i
is_next es number i r h inside =
    let w = internal_follows es i r h inside in
    let same : event_thread (cut_open es) (event_after es i) ≡ event_thread (cut_open es) i = ap (event_thread (cut_open es)) w.next ∙ w.thread in
    let slot : slot_of (cut_open es) (event_after es i) ≡ suc (slot_of (cut_open es) i) = grind (arith, add-one (slot_of (cut_open es) i)) in
    let after = after_below es i h in
    let b = before_event es (event_after es i) r after (omega (arith, slot)) in
    record {
      before = b;
      edge = only_in_slot (cut_open es) b.event i b.below (omega (arith, h, opened-length es)) (b.thread ∙ same) (omega (arith, b.slot, slot));
      thread = same;
      slot = slot;
      step = grind (arith, step_there es number (event_after es i) after);
    }

-- an internal edge ties its events
inner_ties : (arch : ArchName) (codes : List ThreadCode) (es : List Edge) (number : ℕ → ℕ) (x : Execution) (i : ℕ) (e f : NamedAccess)
    → IsRun arch codes es number x → i < length es → is_external (edge_at es i) ≡ false
    → IsEvent es (visits_in (loop_program codes es) x) i e → IsEvent es (visits_in (loop_program codes es) x) (event_after es i) f
    → TiesBy (kind_of (edge_at es i)) (accesses_in (loop_program codes es) x) e f
inner_ties arch codes es number x i e f r h inside u v =
    ties (kind_of (edge_at es i)) (accesses_in (loop_program codes es) x) e f (0 + loads_in (take (suc (slot_of (cut_open es) i)) steps) - 1)
    (control_after (take (suc (slot_of (cut_open es) i)) steps) 0 0)
    (next_follows arch (kind_of (edge_at es i)) (accesses_in (loop_program codes es) x) e f steps d.reads (slot_of (cut_open es) i)
    (event_step (cut_open es) number i) (event_step (cut_open es) number (event_after es i))
    (thread_fits es arch number k r.loop_of)
    (step_there es number i h) n.step (same_at source_of source_same es i) link
    (event_fits es arch number (event_after es i) r.loop_of (after_below es i h) n.before).to_store u.direction
    (ap (reads_before (accesses_in (loop_program codes es) x)) (opened_event es (visits_in (loop_program codes es) x) i e u).name_is
    ∙ ap (λ o. reads_among o (slot_of (cut_open es) i)) (got_map accesses_of (visits_in (loop_program codes es) x) k
    (thread_visits steps 0 0 d.reads) d.visits_are))
    (event_visit es (visits_in (loop_program codes es) x) (event_after es i) f k (suc (slot_of (cut_open es) i)) (thread_visits steps 0 0 d.reads)
    (opened_event es (visits_in (loop_program codes es) x) (event_after es i) f v) n.thread n.slot d.visits_are))
  where
    k : ℕ
    k = event_thread (cut_open es) i

    steps : List Step
    steps = thread_steps (cut_open es) number k

    n : IsNext es number i
    n = is_next es number i r.loop_of.loop h inside

    d : Made codes es number x k
    d = made arch codes es number x k r (opened_under es i r.loop_of.loop h)

    link : event_link (cut_open es) (event_after es i) ≡ edge_link (edge_at es i)
    link = link_between (cut_open es) (event_after es i) n.before ∙ same_at edge_link link_same es n.before.event ∙ ap (λ j. edge_link (edge_at es j)) n.edge

-- an event is the test's access
event_is : (codes : List ThreadCode) (es : List Edge) (number : ℕ → ℕ) (x : Execution) (i : ℕ) (e : NamedAccess) → IsLoop es
    → accesses_in (loop_program codes es) x ≡ loop_accesses es number → i < length es → IsEvent es (visits_in (loop_program codes es) x) i e
    → access_at e ≡ event_at (cut_open es) number i
event_is codes es number x i e r m h v =
    let w = opened_event es (visits_in (loop_program codes es) x) i e v in
    let a : at_name (accesses_in (loop_program codes es) x) e.name ≡ Some e.visit.access = access_of_visit
    (visits_in (loop_program codes es) x) e.name e.visit v.visit_is in
    let c : event_access (cut_open es) number i ≡ e.visit.access = grind (arith, event_there es number i r h) in
    λ t. record { name = w.name_is t; access = sym c t }

-- the visits of a thread are those of its steps
visits_same : (codes : List ThreadCode) (es : List Edge) (number : ℕ → ℕ) (x : Execution) (k : ℕ) (visits : List Visit) (d : Made codes es number x k)
    → slice_get (visits_in (loop_program codes es) x) k ≡ Some visits → thread_visits (thread_steps (cut_open es) number k) 0 0 d.reads ≡ visits
visits_same codes es number x k visits d g = grind arith

-- no edge ties the first access of a thread
first_plain : (es : List Edge) (number : ℕ → ℕ) (k : ℕ) (s : Step) → slice_get (thread_steps (cut_open es) number k) 0 ≡ Some s → s.link ≡ Plain
first_plain es number k s h =
    let i = image_of (event_step (cut_open es) number) (events_in (cut_open es) k) 0 s h in
    let w = slot_of_event (cut_open es) k 0 i.element i.got in
    sym (ap (λ (y : Step). y.link) i.image) ∙ link_first (cut_open es) i.element w.slot

-- the access of an event in an execution
event_made : (arch : ArchName) (codes : List ThreadCode) (es : List Edge) (number : ℕ → ℕ) (x : Execution) (i : ℕ) → IsRun arch codes es number x
    → i < length es → (e : NamedAccess) × IsEvent es (visits_in (loop_program codes es) x) i e
event_made arch codes es number x i r h =
    let k = event_thread (cut_open es) i in
    let steps = thread_steps (cut_open es) number k in
    let d = made arch codes es number x k r (opened_under es i r.loop_of.loop h) in
    let below = slice_get_within steps (slot_of (cut_open es) i) (event_step (cut_open es) number i) (step_there es number i h) in
    let g = got_below (thread_visits steps 0 0 d.reads) (slot_of (cut_open es) i) (omega (arith, below, visits-count steps 0 0 d.reads)) in
    let there = visit_at steps 0 0 d.reads (slot_of (cut_open es) i) (event_step (cut_open es) number i) g.element (step_there es number i h) g.got in (
      record { name = event_name es i; visit = g.element },
      record {
        name_is = refl;
        visit_is = grind (arith, opened_name es i);
        direction = ap (λ (y : Visit). y.access.dir) there.is ∙ same_at source_of source_same es i;
      },
    )

-- the program has the events of the cycle
has_events : (arch : ArchName) (codes : List ThreadCode) (es : List Edge) (number : ℕ → ℕ) (x : Execution) → IsRun arch codes es number x
    → HasEvents es (loop_program codes es) x
has_events arch codes es number x r = record {
  threads = omega (arith, length-map codes thread_from, codes-count arch codes es number x r);
  counts = λ k visits h g.
      grind (arith, made arch codes es number x k r h, visits_same, visits-count, length-map (events_in (cut_open es) k) (event_step (cut_open es) number), opened_events es k);
  events = λ i h. event_made arch codes es number x i r h;
  observers = λ k visits h g. absurd (omega (arith, h, visits_below codes (move_count (cut_open es)) x k visits g, codes-count arch codes es number x r));
  starts = λ k visits g.
      let d = made arch codes es number x k r (omega (
        arith,
        visits_below codes (move_count (cut_open es)) x k visits g,
        codes-count arch codes es number x r,
      )) in
      subst StartsFree (visits_same codes es number x k visits d g)
      (starts_free (thread_steps (cut_open es) number k) d.reads (λ s q. first_plain es number k s q));
  ends = λ k items g.
      let d = made arch codes es number x k r (omega (arith, items_below codes (move_count (cut_open es)) x k items g, codes-count arch codes es number x r)) in
      let e : thread_items (thread_steps (cut_open es) number k) 0 0 d.reads ≡ items = cc (d.items_are, g) in
      ap (barriers_after []) (sym e) ∙ ends_free (thread_steps (cut_open es) number k) 0 0 d.reads;
}

-- all edges stand in the stated execution
pub all_stand : (arch : ArchName) (codes : List ThreadCode) (es : List Edge) (number : ℕ → ℕ) (x : Execution) → IsRun arch codes es number x
    → IsNumbering (cut_open es) number → accesses_in (loop_program codes es) x ≡ loop_accesses es number → x ≡ loop_execution es number
    → AllStand es (loop_program codes es) x
all_stand arch codes es number x r n m is = record {
  events = has_events arch codes es number x r;
  stand = λ i e f h u v. record {
    joins =
        grind (arith, event_is codes es number x i e r.loop_of.loop m h u, event_is codes es number x (event_after es i) f r.loop_of.loop m (after_below es i h) v, after_below es i h, loop_joins es number i r.loop_of.loop n h);
    leaves_mark = event_mark arch codes es number x i e r h u;
    enters_mark = event_mark arch codes es number x (event_after es i) f r (after_below es i h) v ∙ mark_after es i r.loop_of.loop.composes h;
    ties = grind (arith, external_ties, inner_ties);
  };
}
