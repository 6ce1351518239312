-- The accesses of a coherence test are at one place and their writes are numbered by their values, so one execution alone
-- has these values: the stated one. Each edge joins its accesses in it, and it has a cycle.
use Rattle.co_tests.proofs.Vocabulary.{◌≡◌, ◌≢◌, ℕ, suc, ◌+◌, ◌-◌, ◌<◌, ◌≤◌, true, false, List, [], ◌∷◌, ◌++◌, length, map, Option, Some, None, slice_get, refl, sym, ◌∙◌, ap, subst, arith, add-one, filter, filter_map, option_map, map-append, upto, by_less, Dir, Sd, Same, Diff, Reach, Internal, External, Com, Kind, Avoid, Edge, kind_of, kind_source, kind_target, source_of, target_of, sd_of, reach_of, is_external, same_dir, IsCycle, edge_at, ends_outside, external_count, move_count, thread_of, slot_of, location_of, events_in, event_after, thread_in, thread_out, thread_up, thread_end, thread-zero, slot_in, event_in_slot, slot_of_event, by_after, after_below, source_after, write_at_from, is_write_number, is_observed, value_of, write_count, WriteAt, Access, write, is_read, reads_by, got_from, at_name, Execution, source_at, AreAt, CommunicatesBy, ComesBefore, Reaches, Joins, event_name, IsNumbering, observed_locations, event_access, event_at, observer_accesses, cycle_accesses, ordered_write, write_of, event_read, observer_reads, reads_in, location_order, location_numbered, intended, GotFrom, got_from_list, got_map, image_of, map_same, map-map, filter-map, location_of_number, EventAt, thread_accesses, observer_thread, reads_by_source, written_by, moves, stays_inside, goes_outside, orders_by, cut_open, writes_in, HasCycle}
use Rattle.co_tests.proofs.{OnePlace.{Numbered, by_value, source_in, by_values, by_values_source, by_values_place}, Turning.{Falls, has_cycle}}
use Rattle.co_tests.proofs.Opened.{source_same, external_same, same_at, opened-length, opened-threads, opened_thread, opened_slot}
use Rattle.co_tests.proofs.Values.{IsCut, written-all, one_move, one_location, write_count_is, value_along, value_begins, value_ends, value_within, value_positive, value_written, next_written, written_up}
use Rattle.relax_edges.specs.declared.kinds.Dir.TheVariants as dirs
use Rattle.relax_edges.specs.declared.kinds.Com.TheVariants as coms
use Rattle.relax_edges.specs.declared.kinds.Kind.TheVariants as kinds
use Rattle.cycle_events.proofs.Locations as outside

-- a cycle over one location that is cut, and that composes and ends with an edge to another of two threads or more
pub record IsLoop (es : List Edge) : Type 0 where
  pub composes : IsCycle es
  pub outside : ends_outside es ≡ true
  pub threads : 2 ≤ external_count es
  pub is_cut : IsCut es

-- the accesses of its test
abbrev pub loop_accesses : List Edge → (ℕ → ℕ) → List (List Access)
loop_accesses es number = cycle_accesses (cut_open es) Avoid number

-- its writes by their numbers
abbrev pub loop_write : List Edge → ℕ → Option WriteAt
loop_write es k = ordered_write (cut_open es) 0 k

-- the last edge leads to another thread
pub last_outside : (es : List Edge) (n : ℕ) → IsLoop es → length es ≡ n + 1 → is_external (edge_at es n) ≡ true
last_outside es n r e = sym (outside.ends_with es n e) ∙ r.outside

-- each event is in one of the threads
pub thread_under : (es : List Edge) (i : ℕ) → IsLoop es → i < length es → thread_of es i < external_count es
thread_under es i r h =
    let e : length es ≡ (length es - 1) + 1 = omega arith in
    let out = thread_out es (length es - 1) (omega arith) (last_outside es (length es - 1) r e) in
    let all : thread_of es ((length es - 1) + 1) ≡ external_count es = ap (thread_of es) (sym e) ∙ thread_end es in
    omega (arith, out, all, thread_up es i (length es - 1) (omega arith) (omega arith))

opened_under : (es : List Edge) (i : ℕ) → IsLoop es → i < length es → thread_of (cut_open es) i < external_count (cut_open es)
opened_under es i r h = omega (arith, thread_under es i r h, opened_thread es i, opened-threads es)

-- an event has one name in the cycle and in the cut cycle
pub opened_name : (es : List Edge) (i : ℕ) → event_name (cut_open es) i ≡ event_name es i
opened_name es i = λ t. record { thread = opened_thread es i t; access = opened_slot es i t }

-- each event is at its name
pub event_there : (es : List Edge) (number : ℕ → ℕ) (i : ℕ) → IsLoop es → i < length es
    → at_name (loop_accesses es number) (event_name (cut_open es) i) ≡ Some (event_access (cut_open es) number i)
event_there es number i r h =
    ap (λ o. got_from o (slot_of (cut_open es) i)) (thread_accesses (cut_open es) Avoid number (thread_of (cut_open es) i) (opened_under es i r h))
    ∙ got_map (event_access (cut_open es) number) (events_in (cut_open es) (thread_of (cut_open es) i)) (slot_of (cut_open es) i) i
    (event_in_slot (cut_open es) i (omega (arith, h, opened-length es)))

none_kept : (xs : List ℕ) → filter (λ _. false) xs ≡ []
none_kept [] = refl
none_kept (x ∷ xs) = none_kept xs

-- no location has an observer
pub unobserved : (es : List Edge) (location : ℕ) → is_observed es Avoid location ≡ false
unfolding is_observed
unobserved es location = refl

-- so the list of those that have one is empty
pub none_observed : (es : List Edge) → observed_locations es Avoid ≡ []
unfolding is_observed
none_observed es = none_kept (upto (move_count es))

no_observer : (es : List Edge) (number : ℕ → ℕ) (o : ℕ) → slice_get (map (observer_accesses es number) (observed_locations es Avoid)) o ≡ None
no_observer es number o = ap (λ l. slice_get (map (observer_accesses es number) l) o) (none_observed es)

-- each access is an event
pub event_from : (es : List Edge) (number : ℕ → ℕ) (name : WriteAt) (access : Access) → at_name (loop_accesses es number) name ≡ Some access
    → EventAt (cut_open es) number name access
event_from es number name access h =
    by_less name.thread (external_count (cut_open es)) as_event
    (λ l. let e : name.thread ≡ external_count (cut_open es) + (name.thread - external_count (cut_open es)) = omega (arith, l) in
    let n : None ≡ Some g.list = sym (no_observer (cut_open es) number (name.thread - external_count (cut_open es)))
    ∙ sym (observer_thread (cut_open es) Avoid number name.thread (name.thread - external_count (cut_open es)) e) ∙ g.list_is in
    cc)
  where
    g : GotFrom (slice_get (loop_accesses es number) name.thread) name.access access
    g = got_from_list (slice_get (loop_accesses es number) name.thread) name.access access h

    as_event : name.thread < external_count (cut_open es) → EventAt (cut_open es) number name access
    as_event l =
        let e : g.list ≡ map (event_access (cut_open es) number) (events_in (cut_open es) name.thread) =
        cc (g.list_is, thread_accesses (cut_open es) Avoid number name.thread l) in
        let i = image_of (event_access (cut_open es) number) (events_in (cut_open es) name.thread) name.access access (rw e at g.got) in
        let w = slot_of_event (cut_open es) name.thread name.access i.element i.got in
        record { event = i.element; below = w.below; thread = sym w.thread; slot = sym w.slot; access_is = i.image }

-- the one location has number 0
pub number_zero : (es : List Edge) (number : ℕ → ℕ) → IsCut es → IsNumbering (cut_open es) number → number 0 ≡ 0
number_zero es number c n = omega (arith, n.below 0 (omega (arith, one_move es c)), one_move es c)

place_zero : (es : List Edge) (number : ℕ → ℕ) (i : ℕ) → IsCut es → IsNumbering (cut_open es) number → number (location_of (cut_open es) i) ≡ 0
place_zero es number i c n = ap number (one_location es i c) ∙ number_zero es number c n

-- a write event is the write of its number
pub named_write : (es : List Edge) (i k : ℕ) → IsCut es → i < length es → source_of (edge_at es i) ≡ dirs.W → value_of (cut_open es) i ≡ suc k
    → loop_write es k ≡ Some (event_name (cut_open es) i)
named_write es i k c h w v =
    ap (option_map (event_name (cut_open es)))
    (is_write_number (cut_open es) 0 k i (record {
      below = omega (arith, h, opened-length es);
      writes = write_at_from (cut_open es) 0 i (ap (λ d. same_dir d dirs.W) (same_at source_of source_same es i ∙ w)) (one_location es i c);
      value = v ∙ sym (add-one k);
    }))

-- the accesses of the test are numbered by their values
pub numbered : (es : List Edge) (number : ℕ → ℕ) → IsLoop es → IsNumbering (cut_open es) number
    → Numbered (loop_accesses es number) (loop_write es) (writes_in es)
numbered es number r n = record {
  gives = λ k h.
      let w = value_written es k c h in
      record {
        name = event_name (cut_open es) w.event;
        named = named_write es w.event k c w.below w.writes w.value;
        there = event_there es number w.event r w.below
            ∙ ap Some (λ t. record {
              dir = (same_at source_of source_same es w.event ∙ w.writes) t;
              place = place_zero es number w.event c n t;
              value = w.value t;
            });
      };
  writes = λ w place value h.
      let e = event_from es number w (write place value) h in
      let below : e.event < length es = omega (arith, e.below, opened-length es) in
      let d : source_of (edge_at es e.event) ≡ dirs.W = sym (same_at source_of source_same es e.event) ∙ ap (λ (a : Access). a.dir) e.access_is in
      let v : value_of (cut_open es) e.event ≡ value = ap (λ (a : Access). a.value) e.access_is in
      let some : 0 < value_of (cut_open es) e.event = value_positive es e.event c below d in
      let q : value_of (cut_open es) e.event ≡ suc (value_of (cut_open es) e.event - 1) = omega (arith, some) in
      record {
        rank = value_of (cut_open es) e.event - 1;
        below = omega (arith, some, value_within es e.event c below);
        place_is = sym (ap (λ (a : Access). a.place) e.access_is) ∙ place_zero es number e.event c n;
        value_is = sym v ∙ q;
        named = grind (arith, named_write es e.event (value_of (cut_open es) e.event - 1) c below d q);
      };
  place = λ name access h. let e = event_from es number name access h in sym (ap (λ (a : Access). a.place) e.access_is) ∙ place_zero es number e.event c n;
  within = λ name access h. grind (arith, event_from es number name access h, value_within, opened-length es);
}
  where
    c : IsCut es
    c = r.is_cut

-- the write of a value
write_is : (es : List Edge) (v : ℕ) → write_of (cut_open es) 0 v ≡ by_value (loop_write es) v
write_is es v = grind arith

-- what a thread reads in the stated execution
thread_reads : (es : List Edge) (number : ℕ → ℕ) (k : ℕ) → IsCut es
    → map (event_read (cut_open es)) (reads_in (cut_open es) k)
    ≡ reads_by_source (source_in (loop_write es)) (filter is_read (map (event_access (cut_open es) number) (events_in (cut_open es) k)))
thread_reads es number k c =
    map_same (event_read (cut_open es)) (λ i. (value_of (cut_open es) i, by_value (loop_write es) (value_of (cut_open es) i))) (reads_in (cut_open es) k)
    (λ i t. (
      value_of (cut_open es) i,
      (ap (λ l. write_of (cut_open es) l (value_of (cut_open es) i)) (one_location es i c)
          ∙ write_is es (value_of (cut_open es) i)) t,
    ))
    ∙ sym (map-map (event_access (cut_open es) number) (λ access. (access.value, source_in (loop_write es) access)) (reads_in (cut_open es) k))
    ∙ ap (reads_by_source (source_in (loop_write es))) (sym (filter-map is_read (event_access (cut_open es) number) (events_in (cut_open es) k)))

-- the stated execution is the one by values
pub stated_is : (es : List Edge) (number : ℕ → ℕ) → IsCut es → IsNumbering (cut_open es) number
    → intended (cut_open es) Avoid number ≡ by_values (loop_accesses es number) (loop_write es) (writes_in es)
unfolding intended cycle_accesses location_order
stated_is es number c n =
    let threads = upto (external_count (cut_open es)) in
    let f : List Access → List (ℕ × Option WriteAt) = λ accesses. reads_by_source (source_in (loop_write es)) (filter is_read accesses) in
    let events : ℕ → List Access = λ k. map (event_access (cut_open es) number) (events_in (cut_open es) k) in
    let reads : map (λ k. map (event_read (cut_open es)) (reads_in (cut_open es) k)) threads ++ map (observer_reads (cut_open es))
    (observed_locations (cut_open es) Avoid) ≡ map f (map events threads ++ map (observer_accesses (cut_open es) number)
    (observed_locations (cut_open es) Avoid)) =
    ap (λ l. map (λ k. map (event_read (cut_open es)) (reads_in (cut_open es) k)) threads ++ map (observer_reads (cut_open es)) l) (none_observed (cut_open es))
    ∙ ap (λ l. l ++ []) (map_same (λ k. map (event_read (cut_open es)) (reads_in (cut_open es) k)) (λ k. f (events k)) threads
    (λ k. thread_reads es number k c) ∙ sym (map-map events f threads))
    ∙ ap (λ l. map f (map events threads) ++ map f (map (observer_accesses (cut_open es) number) l)) (sym (none_observed (cut_open es)))
    ∙ sym (map-append f (map events threads) (map (observer_accesses (cut_open es) number) (observed_locations (cut_open es) Avoid))) in
    let at : location_numbered (cut_open es) number 0 ≡ 0 = grind (arith, number_zero es number c n, location_of_number, one_move es c) in
    let orders : map (λ place. filter_map (ordered_write (cut_open es) (location_numbered (cut_open es) number place))
    (upto (write_count (cut_open es) (location_numbered (cut_open es) number place)))) (upto (move_count (cut_open es))) ≡ filter_map (loop_write es)
    (upto (writes_in es)) ∷ [] =
    ap (λ m. map (λ place. filter_map (ordered_write (cut_open es) (location_numbered (cut_open es) number place))
    (upto (write_count (cut_open es) (location_numbered (cut_open es) number place)))) (upto m)) (one_move es c)
    ∙ ap (λ l. filter_map (ordered_write (cut_open es) l) (upto (write_count (cut_open es) l)) ∷ []) at
    ∙ ap (λ m. filter_map (loop_write es) (upto m) ∷ []) (write_count_is es c) in
    λ t. record { reads = reads t; orders = orders t }

-- a communication isn't the cut
com_not_cut : (es : List Edge) (i : ℕ) (k : Com) (reach : Reach) (c : IsCut es) → kind_of (edge_at es i) ≡ kinds.Com k reach → i ≡ c.cut.at → ⊥
com_not_cut es i k reach c e q = grind arith

-- along a communication the value grows by one into a write, and stays into a read
pub value_through : (es : List Edge) (i : ℕ) (k : Com) (reach : Reach) → IsLoop es → i < length es → kind_of (edge_at es i) ≡ kinds.Com k reach
    → value_of (cut_open es) (event_after es i) ≡ value_of (cut_open es) i + written_by (target_of (edge_at es i))
value_through es i k reach r h e =
    value_along es i r.is_cut h (com_not_cut es i k reach r.is_cut e)
    ∙ ap (λ d. value_of (cut_open es) i + written_by d) (source_after es i r.composes h)

-- the write of a write event's value is the event
own_write : (es : List Edge) (i : ℕ) → IsLoop es → i < length es → source_of (edge_at es i) ≡ dirs.W
    → by_value (loop_write es) (value_of (cut_open es) i) ≡ Some (event_name (cut_open es) i)
own_write es i r h w = grind (arith, value_positive es i r.is_cut h w, named_write)

-- the execution that has these values
abbrev pub loop_execution : List Edge → (ℕ → ℕ) → Execution
loop_execution es number = by_values (loop_accesses es number) (loop_write es) (writes_in es)

-- along a reads-from edge the read reads the write
reads_from : (es : List Edge) (number : ℕ → ℕ) (i : ℕ) (reach : Reach) → IsLoop es → i < length es → kind_of (edge_at es i) ≡ kinds.Com coms.Rf reach
    → source_at (loop_accesses es number) (loop_execution es number) (event_name (cut_open es) (event_after es i)) ≡ Some (event_name (cut_open es) i)
reads_from es number i reach r h e =
    let after = after_below es i h in
    let d : source_of (edge_at (cut_open es) (event_after es i)) ≡ dirs.R = same_at source_of source_same es (event_after es i)
    ∙ source_after es i r.composes h ∙ ap kind_target e in
    let v : value_of (cut_open es) (event_after es i) ≡ value_of (cut_open es) i = grind (arith, value_through es i coms.Rf reach r h e, written_by) in
    by_values_source (loop_accesses es number) (loop_write es) (writes_in es) (event_name (cut_open es) (event_after es i))
    (event_access (cut_open es) number (event_after es i)) (event_there es number (event_after es i) r after) (ap reads_by d)
    ∙ ap (by_value (loop_write es)) v
    ∙ own_write es i r h (ap kind_source e)

-- along a communication into a write the coherence place grows
comes_before : (es : List Edge) (number : ℕ → ℕ) (i : ℕ) (k : Com) (reach : Reach) → IsLoop es → IsNumbering (cut_open es) number → i < length es
    → kind_of (edge_at es i) ≡ kinds.Com k reach → kind_target (kinds.Com k reach) ≡ dirs.W
    → ComesBefore (loop_accesses es number) (loop_execution es number) (event_at (cut_open es) number i) (event_at (cut_open es) number (event_after es i))
comes_before es number i k reach r n h e d =
    let f = numbered es number r n in
    let after = after_below es i h in
    let one : written_by (target_of (edge_at es i)) ≡ 1 = ap written_by (ap kind_target e ∙ d) in
    omega (
      arith,
      value_through es i k reach r h e,
      one,
      by_values_place (loop_accesses es number) (loop_write es) (writes_in es) (event_name (cut_open es) i) (event_access (cut_open es) number i) f
          (event_there es number i r h),
      by_values_place (loop_accesses es number) (loop_write es) (writes_in es) (event_name (cut_open es) (event_after es i))
          (event_access (cut_open es) number (event_after es i)) f (event_there es number (event_after es i) r after),
    )

communicates : (es : List Edge) (number : ℕ → ℕ) (i : ℕ) → IsLoop es → IsNumbering (cut_open es) number → i < length es → (k : Kind)
    → kind_of (edge_at es i) ≡ k
    → CommunicatesBy k (loop_accesses es number) (loop_execution es number) (event_at (cut_open es) number i) (event_at (cut_open es) number (event_after es i))
communicates es number i r n h (kinds.Com coms.Rf reach) e = reads_from es number i reach r h e
communicates es number i r n h (kinds.Com coms.Fr reach) e = comes_before es number i coms.Fr reach r n h e refl
communicates es number i r n h (kinds.Com coms.Ws reach) e = comes_before es number i coms.Ws reach r n h e refl
communicates es number i r n h k e = tt

-- an internal edge leads to the next event, in the next slot of its thread
pub record Follows (es : List Edge) (i : ℕ) : Type 0 where
  pub within : i + 1 < length es
  pub next : event_after es i ≡ i + 1
  pub thread : thread_of (cut_open es) (i + 1) ≡ thread_of (cut_open es) i
  pub slot : slot_of (cut_open es) (i + 1) ≡ slot_of (cut_open es) i + 1

pub internal_follows : (es : List Edge) (i : ℕ) → IsLoop es → i < length es → is_external (edge_at es i) ≡ false → Follows es i
internal_follows es i r h f =
    let below : i < length (cut_open es) = omega (arith, h, opened-length es) in
    let inside : is_external (edge_at (cut_open es) i) ≡ false = same_at is_external external_same es i ∙ f in
    by_after es i h
    (λ l e. record { within = l; next = e; thread = thread_in (cut_open es) i below inside; slot = slot_in (cut_open es) i below inside })
    (λ l e. let a : true ≡ false = sym (last_outside es i r l) ∙ f in cc)

-- an external edge leads to another thread
external_leads : (es : List Edge) (i : ℕ) → IsLoop es → i < length es → is_external (edge_at es i) ≡ true
    → thread_of (cut_open es) i ≢ thread_of (cut_open es) (event_after es i)
external_leads es i r h t same =
    let s : thread_of es i ≡ thread_of es (event_after es i) = sym (opened_thread es i) ∙ same ∙ opened_thread es (event_after es i) in
    let out = thread_out es i h t in
    by_after es i h
    (λ l e. omega (arith, out, s, ap (thread_of es) e))
    (λ l e. let all : thread_of es (i + 1) ≡ external_count es = ap (thread_of es) (sym l) ∙ thread_end es in
    omega (arith, out, s, all, ap (thread_of es) e, thread-zero es, r.threads))

-- each edge joins its accesses in the stated execution
pub loop_joins : (es : List Edge) (number : ℕ → ℕ) (i : ℕ) → IsLoop es → IsNumbering (cut_open es) number → i < length es
    → Joins (loop_accesses es number) (loop_execution es number) (edge_at es i) (event_at (cut_open es) number i)
    (event_at (cut_open es) number (event_after es i))
loop_joins es number i r n h = record {
  leaves = same_at source_of source_same es i;
  enters = same_at source_of source_same es (event_after es i) ∙ source_after es i r.composes h;
  places = by_place (sd_of (edge_at es i)) refl;
  communicates = communicates es number i r n h (kind_of (edge_at es i)) refl;
  reaches = by_reach (reach_of (edge_at es i)) refl;
}
  where
    by_place : (p : Sd) → sd_of (edge_at es i) ≡ p → AreAt p (number (location_of (cut_open es) i)) (number (location_of (cut_open es) (event_after es i)))
    by_place Same p = place_zero es number i r.is_cut n ∙ sym (place_zero es number (event_after es i) r.is_cut n)
    by_place Diff p = let f : true ≡ false = sym (moves (edge_at es i) p) ∙ r.is_cut.same i h in cc

    by_reach : (p : Reach) → reach_of (edge_at es i) ≡ p → Reaches p (event_name (cut_open es) i) (event_name (cut_open es) (event_after es i))
    by_reach Internal p = grind (arith, internal_follows es i r h (stays_inside (edge_at es i) p), stays_inside (edge_at es i) p, thread_of (cut_open es))
    by_reach External p = external_leads es i r h (goes_outside (edge_at es i) p)

-- an edge to another thread leaves or enters a write
outside_write : (es : List Edge) (i : ℕ) → IsCycle es → i < length es → (k : Kind) → kind_of (edge_at es i) ≡ k → is_external (edge_at es i) ≡ true
    → (j : ℕ) × (j < length es) × (source_of (edge_at es j) ≡ dirs.W)
outside_write es i r h (kinds.Com coms.Rf reach) e t = (i, h, ap kind_source e)
outside_write es i r h (kinds.Com coms.Ws reach) e t = (i, h, ap kind_source e)
outside_write es i r h (kinds.Com coms.Fr reach) e t = (event_after es i, after_below es i h, source_after es i r h ∙ ap kind_target e)
outside_write es i r h k e t = let a = rw e at t in cc

-- so there is a write
pub some_write : (es : List Edge) → IsLoop es → 0 < writes_in es
some_write es r =
    let long : 0 < length es = omega (arith, r.is_cut.within) in
    let e : length es ≡ (length es - 1) + 1 = omega (arith, long) in
    let w = outside_write es (length es - 1) r.composes (omega (arith, long)) (kind_of (edge_at es (length es - 1))) refl
    (last_outside es (length es - 1) r e) in
    omega (arith, next_written es w.0 w.1, ap written_by w.2, written_up es (w.0 + 1) (length es) (omega (arith, w.1)) (omega arith), written-all es)

-- the cut stays in its thread
pub ordering_inside : (e : Edge) (k : Kind) → kind_of e ≡ k → orders_by k ≡ true → is_external e ≡ false
ordering_inside e k q h = grind arith

-- along the cut the value falls
falls : (d : Dir) (u v : ℕ) → 0 < u → v ≡ written_by d → Falls d u v
falls d u v h e = grind arith

-- the stated execution has a cycle
pub loop_cycle : (es : List Edge) (number : ℕ → ℕ) → IsLoop es → IsNumbering (cut_open es) number
    → HasCycle (loop_accesses es number) (loop_execution es number)
loop_cycle es number r n =
    let c = r.is_cut in
    let i = c.cut.at in
    let f = internal_follows es i r c.cut.below (ordering_inside (edge_at es i) (kind_of (edge_at es i)) refl c.cut.ordering) in
    has_cycle (loop_accesses es number) (loop_write es) (writes_in es) (event_name (cut_open es) i) (event_name (cut_open es) (i + 1))
    (event_access (cut_open es) number i) (event_access (cut_open es) number (i + 1)) (numbered es number r n)
    (sym f.thread) (omega (arith, f.slot)) (event_there es number i r c.cut.below) (event_there es number (i + 1) r c.within)
    (omega (arith, value_ends es c, some_write es r))
    (subst (λ d. Falls d (value_of (cut_open es) i) (value_of (cut_open es) (i + 1))) (sym (same_at source_of source_same es (i + 1)))
    (falls (source_of (edge_at es (i + 1))) (value_of (cut_open es) i) (value_of (cut_open es) (i + 1)) (omega (arith, value_ends es c, some_write es r))
    (value_begins es c)))
