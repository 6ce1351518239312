-- The accesses of each thread of a coherence test are some and not too many, and can follow one another on the architecture.
use Rattle.co_tests.proofs.Vocabulary.{◌≡◌, ℕ, zero, suc, ◌+◌, ◌<◌, ◌≤◌, Bool, true, false, List, length, Some, slice_get, refl, sym, ◌∙◌, ap, subst, arith, add-one, list_all, length-map, by_test, Dir, Internal, Rf, ArchName, Avoid, Edge, kind_of, source_of, source_mark, mark_fits, mark_is_of, is_of_arch, is_external, source_mark_fits, edge_at, events_in, thread_of, slot_of, slot-zero, slot_out, slot_of_event, source_after, only_in_slot, thread_has_events, thread_size_most, Step, Plain, edge_link, link_is_of, depends_on_load, is_data, FitStep, FitSteps, is_load_dir, image_of, event_link, event_step, thread_steps, cycle_steps, has_edge, by_steps, Before, IsThread, all_at, link_between, link_first, link_enters, link_leaves, fit_from, cut_open, writes_in}
use Rattle.relax_edges.specs.declared.edge.Edge.TheVariants as edges
use Rattle.co_tests.proofs.Opened.{source_same, source_mark_same, external_same, link_same, same_at, opened-length, opened_after}
use Rattle.co_tests.proofs.{Values.value_within, Events.IsLoop, Events.unobserved, Events.internal_follows}

-- a cycle over one location with at most two writes, whose edges are the architecture's
pub record IsLoopOf (arch : ArchName) (es : List Edge) : Type 0 where
  pub loop : IsLoop es
  pub of_arch : list_all (λ e. is_of_arch e arch) es ≡ true
  pub few_writes : writes_in es ≤ 2

-- an event has the mark of what its edge leaves, and a small value
record IsMarked (arch : ArchName) (s : Step) : Type 0 where
  fits : mark_fits s.dir s.mark ≡ true
  of_arch : mark_is_of s.mark arch ≡ true
  small : s.value < 256

event_marked : (es : List Edge) (arch : ArchName) (number : ℕ → ℕ) (i : ℕ) → IsLoopOf arch es → i < length es
    → IsMarked arch (event_step (cut_open es) number i)
event_marked es arch number i r h = record {
  fits = source_mark_fits (edge_at (cut_open es) i);
  of_arch = grind (arith, same_at source_mark source_mark_same es i, source_mark_same, has_edge, all_at);
  small = omega (arith, value_within es i r.loop.is_cut h, r.few_writes);
}

-- an access that no edge of its thread ties fits at any place
untied_fits : (arch : ArchName) (b : Bool) (s : Step) → s.link ≡ Plain → IsMarked arch s → FitStep arch b s
untied_fits arch b s e m = grind arith

-- an event that isn't the first of its thread has an event before it, to which an internal edge joins it
pub before_event : (es : List Edge) (i : ℕ) → IsLoop es → i < length es → 0 < slot_of (cut_open es) i → Before (cut_open es) i
before_event es zero r h l = absurd (omega (arith, slot-zero (cut_open es), l))
before_event es (suc j) r h l =
    by_test (is_external (edge_at es j))
    (λ t. let z : slot_of (cut_open es) (suc j) ≡ 0 = rw (add-one j) at (slot_out (cut_open es) j (omega (arith, h, opened-length es))
    (same_at is_external external_same es j ∙ t)) in absurd (omega (arith, z, l)))
    (λ f. let w = internal_follows es j r (omega (arith, h)) f in
    let e : j + 1 ≡ suc j = omega arith in
    record {
      event = j;
      before = refl;
      below = omega (arith, h, opened-length es);
      inside = same_at is_external external_same es j ∙ f;
      next = opened_after es j ∙ w.next ∙ e;
      thread = sym w.thread ∙ ap (λ k. thread_of (cut_open es) k) e;
      slot = sym (ap (slot_of (cut_open es)) e) ∙ w.slot;
    })

-- an access after another in its thread fits
pub event_fits : (es : List Edge) (arch : ArchName) (number : ℕ → ℕ) (i : ℕ) → IsLoopOf arch es → i < length es → (b : Before (cut_open es) i)
    → FitStep arch (is_load_dir (source_of (edge_at (cut_open es) b.event))) (event_step (cut_open es) number i)
event_fits es arch number i r h b = record {
  of_arch =
      ap (λ l. link_is_of l arch) link
      ∙ (has_edge (edge_at es b.event) arch (all_at (λ e. is_of_arch e arch) es b.event (edges.Com Rf Internal) r.of_arch below)).link;
  after = λ d. ap is_load_dir (same_at source_of source_same es b.event) ∙ link_leaves (kind_of (edge_at es b.event)) (sym (ap depends_on_load link) ∙ d);
  to_store = λ d.
      grind (arith, same_at source_of source_same es i, source_same, opened_after es b.event, source_after es b.event r.loop.composes below, link_enters (kind_of (edge_at es b.event)) (sym (ap is_data link) ∙ d));
  mark_fitting = marked.fits;
  mark_of_arch = marked.of_arch;
  value = marked.small;
}
  where
    below : b.event < length es
    below = omega (arith, b.below, opened-length es)

    marked : IsMarked arch (event_step (cut_open es) number i)
    marked = event_marked es arch number i r h

    link : event_link (cut_open es) i ≡ edge_link (edge_at es b.event)
    link = link_between (cut_open es) i b ∙ same_at edge_link link_same es b.event

-- the accesses of a thread of the test
pub thread_fits : (es : List Edge) (arch : ArchName) (number : ℕ → ℕ) (thread : ℕ) → IsLoopOf arch es
    → FitSteps arch false (thread_steps (cut_open es) number thread)
thread_fits es arch number thread r = fit_from arch false (thread_steps (cut_open es) number thread) first next
  where
    first : (s : Step) → slice_get (thread_steps (cut_open es) number thread) 0 ≡ Some s → FitStep arch false s
    first s g =
        let i = image_of (event_step (cut_open es) number) (events_in (cut_open es) thread) 0 s g in
        let w = slot_of_event (cut_open es) thread 0 i.element i.got in
        subst (λ (x : Step). FitStep arch false x) i.image
        (untied_fits arch false (event_step (cut_open es) number i.element) (link_first (cut_open es) i.element w.slot)
        (event_marked es arch number i.element r (omega (arith, w.below, opened-length es))))

    next : (k : ℕ) (s t : Step) → slice_get (thread_steps (cut_open es) number thread) k ≡ Some s → slice_get (thread_steps (cut_open es) number thread)
        (suc k) ≡ Some t → FitStep arch (is_load_dir s.dir) t
    next k s t g h =
        let i = image_of (event_step (cut_open es) number) (events_in (cut_open es) thread) k s g in
        let j = image_of (event_step (cut_open es) number) (events_in (cut_open es) thread) (suc k) t h in
        let u = slot_of_event (cut_open es) thread k i.element i.got in
        let w = slot_of_event (cut_open es) thread (suc k) j.element j.got in
        let below : j.element < length es = omega (arith, w.below, opened-length es) in
        let b = before_event es j.element r.loop below (omega (arith, w.slot)) in
        let same : b.event ≡ i.element = grind (arith, only_in_slot) in
        let dir : source_of (edge_at (cut_open es) b.event) ≡ s.dir = ap (λ m. source_of (edge_at (cut_open es) m)) same ∙ ap (λ (x : Step). x.dir) i.image in
        subst (λ (x : Dir × Step). FitStep arch (is_load_dir x.0) x.1) (λ z. (dir z, j.image z))
        (event_fits es arch number j.element r below b)

-- each thread of the test is one of the architecture
pub loop_thread : (es : List Edge) (number : ℕ → ℕ) (arch : ArchName) (k : ℕ) (steps : List Step) → IsLoopOf arch es
    → slice_get (cycle_steps (cut_open es) Avoid number) k ≡ Some steps → IsThread arch steps
loop_thread es number arch k steps r g =
    by_steps (cut_open es) Avoid number k steps g
    (λ l e. subst (λ (x : List Step). IsThread arch x) e (record {
      fit = thread_fits es arch number k r;
      some = omega (arith, length-map (events_in (cut_open es) k) (event_step (cut_open es) number), thread_has_events (cut_open es) k l);
      few = omega (
        arith,
        length-map (events_in (cut_open es) k) (event_step (cut_open es) number),
        thread_size_most (cut_open es) k,
        opened-length es,
        r.loop.composes.few,
      );
    }))
    (λ o. let f : false ≡ true = sym (unobserved (cut_open es) o.spot) ∙ o.observed in cc)
