-- The condition of a coherence test is met by a candidate execution exactly where each load reads the number that is asked for
-- and the place, where there are two writes, ends with the last value.
use Rattle.co_tests.proofs.Vocabulary.{◌≡◌, ℕ, ◌≤◌, cond, List, [], ◌∷◌, length, map, Option, Some, slice_get, sym, ◌∙◌, ap, subst, arith, AllByRecursion, filter, and_from, and_parts, leb-true, le-leb, length-map, slice_get_within, Value, Num, Avoid, Edge, upto, move_count, LeftSeen, AtPlace, Step, AllBelow, MakesSteps, IsArch, location_name, number_in, step_at, renumbered, Puts, ThreadCode, compiled, HoldNumbers, shape_of, makes_steps, is_formed, renumbered_makes, WriteAt, Access, is_read, Execution, final_value, cycle_accesses, IsCandidate, accesses_in, register_in, ReadsAsAsked, values_read, got_below, got_map, cycle_steps, numbers_read, final_state, FindsRegisters, plain, is_named_location, last_term, last_terms, thread_terms, load_terms, reads-count, step_access, AreCodesOf, DidThread, did_thread, planned_at, planned-count, planned_reads, candidate_enough, candidate_lists, cycle_codes, cycle_program, steps_numbered, Origin, origin_of, numbers_kept, IsMet, ShowsRegisters, terms_of_thread, terms_from_threads, terms_read, read_terms, cut_open, writes_in, coherence_steps}
use Rattle.co_tests.proofs.{Values.IsCut, Values.one_move, Values.write_count_is, Events.unobserved, Fits.IsLoopOf, Fits.loop_thread}

-- such a cycle has code on an architecture: no thread needs more registers than there are
pub record HasLoopCode (a : Puts) (es : List Edge) : Type 0 where
  pub loop_of : IsLoopOf a.name es
  pub room : (thread : ℕ) (steps : List Step) → slice_get (coherence_steps es) thread ≡ Some steps → a.need (shape_of steps) ≤ a.registers

-- the codes of its test's threads, where its place has a number, and the program
abbrev pub loop_codes : Puts → List Edge → (ℕ → ℕ) → List ThreadCode
loop_codes a es number = cycle_codes a (cut_open es) Avoid number

-- the code makes the accesses
pub are_codes : (a : Puts) (es : List Edge) (number : ℕ → ℕ) → IsArch a → IsLoopOf a.name es
    → AreCodesOf (loop_codes a es number) (cycle_steps (cut_open es) Avoid number)
are_codes a es number laws r = record {
  count =
      length-map (map (compiled a) (coherence_steps es)) (renumbered number)
      ∙ length-map (coherence_steps es) (compiled a)
      ∙ sym (length-map (coherence_steps es) (map (step_at number)))
      ∙ ap length (steps_numbered (cut_open es) Avoid number);
  each = λ k steps g.
      let p = origin_of a (cut_open es) Avoid number k steps g in
      record {
        code = renumbered number (compiled a p.plain_steps);
        code_at = p.code_at;
        makes = subst (λ (l : List Step). MakesSteps l (renumbered number (compiled a p.plain_steps))) p.steps_are
            (renumbered_makes number p.plain_steps (compiled a p.plain_steps) (makes_steps a laws p.plain_steps
            (loop_thread es plain a.name k p.plain_steps r p.plain_at).fit));
      };
}

-- the registers of a thread's loads are the architecture's
loads_below : (a : Puts) (es : List Edge) (k : ℕ) (steps : List Step) → IsArch a → HasLoopCode a es → slice_get (coherence_steps es) k ≡ Some steps
    → AllBelow a.registers (compiled a steps).loads
loads_below a es k steps laws t g = (is_formed a laws steps (loop_thread es plain a.name k steps t.loop_of g).fit (t.room k steps g)).loads

-- the final state shows what each register of a thread holds at the end of its run
shows : (a : Puts) (es : List Edge) (number : ℕ → ℕ) (names : List (List ℕ)) (register_name : ℕ → List ℕ) (register_number : List ℕ
    → Option ℕ) (x : Execution) (k : ℕ) (steps : List Step) (reads : List (ℕ × Option WriteAt))
    → FindsRegisters a register_name register_number → (d : DidThread (loop_codes a es number) (move_count (cut_open es)) x k steps reads)
    → ShowsRegisters (final_state (cycle_program a (cut_open es) Avoid number) names register_number x) register_name k a.registers d.regs
shows a es number names register_name register_number x k steps reads finds d q h = grind (arith, register_in (cycle_program a (cut_open es) Avoid number) x k)

-- what a thread of the test reads and what is known of its run
record Ran (a : Puts) (es : List Edge) (number : ℕ → ℕ) (x : Execution) (k : ℕ) (steps : List Step) (reads : List (ℕ × Option WriteAt)) : Type 0 where
  did : DidThread (loop_codes a es number) (move_count (cut_open es)) x k steps reads
  origin : Origin a (cut_open es) Avoid number k steps
  loaded : HoldNumbers did.regs (compiled a origin.plain_steps).loads (values_read reads)
  below : AllBelow a.registers (compiled a origin.plain_steps).loads
  numbers : numbers_read origin.plain_steps ≡ numbers_read steps
  count : length (values_read reads) ≡ length (numbers_read origin.plain_steps)

ran : (a : Puts) (es : List Edge) (number : ℕ → ℕ) (x : Execution) (k : ℕ) (steps : List Step) (reads : List (ℕ × Option WriteAt)) → IsArch a
    → HasLoopCode a es → IsCandidate (cycle_program a (cut_open es) Avoid number) x
    → slice_get (cycle_steps (cut_open es) Avoid number) k ≡ Some steps → slice_get x.reads k ≡ Some reads → Ran a es number x k steps reads
ran a es number x k steps reads laws t c g h =
    let m = are_codes a es number laws t.loop_of in
    let n = candidate_enough (loop_codes a es number) (cut_open es) Avoid number x m c k steps reads g h in
    let d = did_thread (loop_codes a es number) (cycle_steps (cut_open es) Avoid number) (move_count (cut_open es)) x k steps reads m g h n in
    let p = origin_of a (cut_open es) Avoid number k steps g in
    let q : d.code ≡ renumbered number (compiled a p.plain_steps) = cc (d.code_at, p.code_at) in
    let e : numbers_read p.plain_steps ≡ numbers_read steps = sym (numbers_kept number p.plain_steps) ∙ ap numbers_read p.steps_are in
    record {
      did = d;
      origin = p;
      loaded = subst (λ (code : ThreadCode). HoldNumbers d.regs code.loads (values_read reads)) q d.loaded;
      below = loads_below a es k p.plain_steps laws t p.plain_at;
      numbers = e;
      count = n ∙ sym (reads-count steps) ∙ sym (ap length e);
    }

-- where the terms of all loads are met, the values read are those asked for
pub reads_asked : (a : Puts) (es : List Edge) (number : ℕ → ℕ) (names : List (List ℕ)) (register_name : ℕ → List ℕ)
    (register_number : List ℕ → Option ℕ) (x : Execution)
    → IsArch a → HasLoopCode a es → FindsRegisters a register_name register_number → IsCandidate (cycle_program a (cut_open es) Avoid number) x
    → AllByRecursion (IsMet (final_state (cycle_program a (cut_open es) Avoid number) names register_number x))
    (load_terms a register_name 0 (coherence_steps es))
    → ReadsAsAsked (cut_open es) Avoid number x
reads_asked a es number names register_name register_number x laws t finds c met k planned reads g h =
    let s = got_below (cycle_steps (cut_open es) Avoid number) k
    (omega (arith, slice_get_within (cycle_accesses (cut_open es) Avoid number) k planned g, planned-count (cut_open es) Avoid number)) in
    let q : map step_access s.element ≡ planned = cc (planned_at (cut_open es) Avoid number k s.element s.got, g) in
    let r = ran a es number x k s.element reads laws t c s.got h in
    let final = final_state (cycle_program a (cut_open es) Avoid number) names register_number x in
    terms_read a final register_name k r.origin.plain_steps r.did.regs (values_read reads)
    (shows a es number names register_name register_number x k s.element reads finds r.did) r.below r.loaded r.count
    (terms_of_thread (IsMet final) a register_name 0 (coherence_steps es) k k r.origin.plain_steps (omega arith) met r.origin.plain_at)
    ∙ r.numbers
    ∙ sym (planned_reads s.element)
    ∙ ap (λ l. map (λ (access : Access). access.value) (filter is_read l)) q

-- and back
pub asked_met : (a : Puts) (es : List Edge) (number : ℕ → ℕ) (names : List (List ℕ)) (register_name : ℕ → List ℕ)
    (register_number : List ℕ → Option ℕ) (x : Execution)
    → IsArch a → HasLoopCode a es → FindsRegisters a register_name register_number → IsCandidate (cycle_program a (cut_open es) Avoid number) x
    → ReadsAsAsked (cut_open es) Avoid number x
    → AllByRecursion (IsMet (final_state (cycle_program a (cut_open es) Avoid number) names register_number x))
    (load_terms a register_name 0 (coherence_steps es))
asked_met a es number names register_name register_number x laws t finds c asked =
    terms_from_threads (IsMet final) a register_name 0 (coherence_steps es)
    (λ k m steps e g. subst (λ i. AllByRecursion (IsMet final) (thread_terms a register_name i steps)) (let z : k ≡ m = omega (arith, e) in z)
    (thread_met k steps g))
  where
    final : LeftSeen → Option Value
    final = final_state (cycle_program a (cut_open es) Avoid number) names register_number x

    thread_met : (k : ℕ) (steps : List Step) → slice_get (coherence_steps es) k ≡ Some steps → AllByRecursion (IsMet final)
        (thread_terms a register_name k steps)
    thread_met k steps g =
        let made : slice_get (cycle_steps (cut_open es) Avoid number) k ≡ Some (map (step_at number) steps) =
        ap (λ l. slice_get l k) (sym (steps_numbered (cut_open es) Avoid number)) ∙ got_map (map (step_at number)) (coherence_steps es) k steps g in
        let reads = got_below x.reads k (omega (
          arith,
          candidate_lists (loop_codes a es number) (cut_open es) Avoid number x
              (are_codes a es number laws t.loop_of) c,
          slice_get_within (cycle_steps (cut_open es) Avoid number) k (map (step_at number) steps) made,
        )) in
        let r = ran a es number x k (map (step_at number) steps) reads.element laws t c made reads.got in
        let q : r.origin.plain_steps ≡ steps = cc (r.origin.plain_at, g) in
        subst (λ l. AllByRecursion (IsMet final) (thread_terms a register_name k l)) q
        (read_terms a final register_name k r.origin.plain_steps r.did.regs (values_read reads.element)
        (shows a es number names register_name register_number x k (map (step_at number) steps) reads.element finds r.did) r.below r.loaded
        (asked k (map step_access (map (step_at number) steps)) reads.element (planned_at (cut_open es) Avoid number k
        (map (step_at number) steps) made) reads.got
        ∙ planned_reads (map (step_at number) steps)
        ∙ sym r.numbers))

-- the place shows its final value
place_shows : (a : Puts) (es : List Edge) (number : ℕ → ℕ) (names : List (List ℕ)) (register_number : List ℕ → Option ℕ) (x : Execution)
    → number_in names (location_name 0) ≡ Some 0
    → final_state (cycle_program a (cut_open es) Avoid number) names register_number x (AtPlace (location_name 0))
    ≡ Some (Num (final_value (accesses_in (cycle_program a (cut_open es) Avoid number) x) x 0))
place_shows a es number names register_number x named = grind arith

-- the term of the place is there where it has two writes
pub ends_terms : (es : List Edge) → IsCut es
    → last_terms (cut_open es) Avoid ≡ map (last_term (cut_open es)) (cond (is_named_location (cut_open es) Avoid 0) (0 ∷ []) [])
ends_terms es c = ap (λ n. map (last_term (cut_open es)) (filter (is_named_location (cut_open es) Avoid) (upto n))) (one_move es c)

-- where it is met, the place ends with the last value
pub ends_asked : (a : Puts) (es : List Edge) (number : ℕ → ℕ) (names : List (List ℕ)) (register_number : List ℕ → Option ℕ) (x : Execution) → IsCut es
    → number_in names (location_name 0) ≡ Some 0
    → AllByRecursion (IsMet (final_state (cycle_program a (cut_open es) Avoid number) names register_number x)) (last_terms (cut_open es) Avoid)
    → 2 ≤ writes_in es → final_value (accesses_in (cycle_program a (cut_open es) Avoid number) x) x 0 ≡ writes_in es
ends_asked a es number names register_number x c named met two =
    grind (arith, and_from, le-leb, write_count_is es c, unobserved (cut_open es) 0, ends_terms es c, place_shows a es number names register_number x named)

-- and back
pub asked_ends : (a : Puts) (es : List Edge) (number : ℕ → ℕ) (names : List (List ℕ)) (register_number : List ℕ → Option ℕ) (x : Execution) → IsCut es
    → number_in names (location_name 0) ≡ Some 0
    → (2 ≤ writes_in es → final_value (accesses_in (cycle_program a (cut_open es) Avoid number) x) x 0 ≡ writes_in es)
    → AllByRecursion (IsMet (final_state (cycle_program a (cut_open es) Avoid number) names register_number x)) (last_terms (cut_open es) Avoid)
asked_ends a es number names register_number x c named asked =
    grind (arith, leb-true, and_parts, ends_terms es c, place_shows a es number names register_number x named, write_count_is es c)
