-- What the program and the condition of a coherence test ask for: one candidate execution alone meets the condition, all
-- edges stand in it, it has a cycle, and so it isn't coherent per location.
use Rattle.co_tests.proofs.Vocabulary.{◌≡◌, ℕ, suc, ◌-◌, ◌≤◌, List, length, Option, Some, sym, ◌∙◌, ap, subst, arith, length-map, all_append, all_parts, Avoid, Edge, move_count, Meets, IsArch, location_name, number_in, Puts, Access, at_name, Execution, IsExecutionOf, final_value, AllStand, IsNumbering, Program, IsCandidate, IsCoherentIn, accesses_in, accesses-count, ReadsAsAsked, values_read, got_map, map-map, makes_planned, WritesWithin, candidates_are_sc_per_location, cycle_steps, last_terms, load_terms, final_state, FindsRegisters, IsMet, cycle_program, all_end, makes, makes_enough, asked_enough, planned-count, cut_open, writes_in, coherence_steps, coherence_test_of, HasCycle}
use Rattle.co_tests.proofs.{OnePlace.{only_by_values, by_values_execution, by_values_ends}, Values.one_move, EdgesOfOneLocation.all_stand}
use Rattle.co_tests.proofs.Events.{IsLoop, loop_accesses, loop_write, loop_execution, numbered, loop_cycle}
use Rattle.co_tests.proofs.ConditionMet.{HasLoopCode, loop_codes, are_codes, reads_asked, asked_met, ends_asked, asked_ends}

-- a coherence test whose place has a number and a name, on an architecture whose registers are found by their names
pub record IsSetUp (a : Puts) (register_name : ℕ → List ℕ) (register_number : List ℕ → Option ℕ) (es : List Edge) (number : ℕ
    → ℕ) (names : List (List ℕ)) : Type 0 where
  pub laws : IsArch a
  pub finds : FindsRegisters a register_name register_number
  pub code : HasLoopCode a es
  pub numbering : IsNumbering (cut_open es) number
  pub named : number_in names (location_name 0) ≡ Some 0

-- its program
abbrev pub loop_program : Puts → List Edge → (ℕ → ℕ) → Program
loop_program a es number = cycle_program a (cut_open es) Avoid number

-- a candidate execution that meets its condition
pub record IsMetBy (a : Puts) (register_name : ℕ → List ℕ) (register_number : List ℕ → Option ℕ) (es : List Edge) (number : ℕ
    → ℕ) (names : List (List ℕ)) (x : Execution) : Type 0 where
  pub candidate : IsCandidate (loop_program a es number) x
  pub meets : Meets (final_state (loop_program a es number) names register_number x) (coherence_test_of a register_name es).cond

-- what holds of such an execution: its accesses are those of the test, and it is the one by values
record IsStated (a : Puts) (es : List Edge) (number : ℕ → ℕ) (x : Execution) : Type 0 where
  accesses : accesses_in (loop_program a es number) x ≡ loop_accesses es number
  is : x ≡ loop_execution es number

stated : (a : Puts) (register_name : ℕ → List ℕ) (register_number : List ℕ → Option ℕ) (es : List Edge) (number : ℕ
    → ℕ) (names : List (List ℕ)) (x : Execution) → IsSetUp a register_name register_number es number names
    → IsMetBy a register_name register_number es number names x → IsStated a es number x
stated a register_name register_number es number names x s w =
    let loop = s.code.loop_of.loop in
    let m = all_parts (IsMet (final_state (loop_program a es number) names register_number x)) (last_terms (cut_open es) Avoid)
    (load_terms a register_name 0 (coherence_steps es)) w.meets in
    let asked = reads_asked a es number names register_name register_number x s.laws s.code s.finds w.candidate m.1 in
    let made = makes (loop_codes a es number) (cut_open es) Avoid number x (are_codes a es number s.laws s.code.loop_of) w.candidate in
    let same : accesses_in (loop_program a es number) x ≡ loop_accesses es number =
    makes_planned (cut_open es) Avoid number (loop_program a es number) x made asked (w.candidate.execution.read_lists
    ∙ accesses-count (loop_program a es number) x) in
    let runs : IsExecutionOf (loop_accesses es number) 1 x = subst (λ (t : List (List Access) × ℕ). IsExecutionOf t.0 t.1 x)
    (λ i. (same i, one_move es loop.is_cut i)) w.candidate.execution in
    let ends : (2 ≤ writes_in es → final_value (loop_accesses es number) x 0 ≡ writes_in es) = λ h.
    subst (λ (t : List (List Access)). final_value t x 0 ≡ writes_in es) same (ends_asked a es number names register_number x loop.is_cut s.named m.0 h) in
    record {
      accesses = same;
      is = only_by_values (loop_accesses es number) (loop_write es) (writes_in es) x (numbered es number loop s.numbering) s.code.loop_of.few_writes runs ends;
    }

-- the execution by values reads what is asked for
reads_stated : (es : List Edge) (number : ℕ → ℕ) → ReadsAsAsked (cut_open es) Avoid number (loop_execution es number)
reads_stated es number k planned reads t g = grind (arith, got_map, values_read, map-map)

-- what is known of it
record Runs (a : Puts) (es : List Edge) (number : ℕ → ℕ) : Type 0 where
  candidate : IsCandidate (loop_program a es number) (loop_execution es number)
  accesses : accesses_in (loop_program a es number) (loop_execution es number) ≡ loop_accesses es number

runs : (a : Puts) (es : List Edge) (number : ℕ → ℕ) → IsArch a → HasLoopCode a es → IsNumbering (cut_open es) number → Runs a es number
runs a es number laws t n =
    let loop = t.loop_of.loop in
    let m = are_codes a es number laws t.loop_of in
    let enough = asked_enough (cut_open es) Avoid number (loop_execution es number) (reads_stated es number) in
    let lists : length (loop_execution es number).reads ≡ length (loop_accesses es number) = grind (arith, length-map) in
    let made = makes_enough (loop_codes a es number) (cut_open es) Avoid number (loop_execution es number) m enough in
    let same : accesses_in (loop_program a es number) (loop_execution es number) ≡ loop_accesses es number =
    makes_planned (cut_open es) Avoid number (loop_program a es number) (loop_execution es number) made (reads_stated es number) (lists ∙ sym made.threads) in
    record {
      candidate = record {
        ended = all_end (loop_codes a es number) (cycle_steps (cut_open es) Avoid number) (move_count (cut_open es)) (loop_execution es number) m (lists
            ∙ planned-count (cut_open es) Avoid number) enough;
        execution = grind (arith, one_move es loop.is_cut, by_values_execution, numbered es number loop n);
      };
      accesses = same;
    }

-- the place ends with the last value in it
ends_stated : (es : List Edge) (number : ℕ → ℕ) → IsLoop es → IsNumbering (cut_open es) number → 2 ≤ writes_in es
    → final_value (loop_accesses es number) (loop_execution es number) 0 ≡ writes_in es
ends_stated es number loop n h =
    let e : writes_in es ≡ suc (writes_in es - 1) = omega (arith, h) in
    by_values_ends (loop_accesses es number) (loop_write es) (writes_in es) (writes_in es - 1) (numbered es number loop n) e ∙ sym e

-- it meets the condition
pub stated_meets : (a : Puts) (register_name : ℕ → List ℕ) (register_number : List ℕ → Option ℕ) (es : List Edge) (number : ℕ → ℕ) (names : List (List ℕ))
    → IsSetUp a register_name register_number es number names
    → IsMetBy a register_name register_number es number names (loop_execution es number)
stated_meets a register_name register_number es number names s =
    let loop = s.code.loop_of.loop in
    let r = runs a es number s.laws s.code s.numbering in
    record {
      candidate = r.candidate;
      meets = all_append (IsMet (final_state (loop_program a es number) names register_number (loop_execution es number))) (last_terms (cut_open es) Avoid)
          (load_terms a register_name 0 (coherence_steps es))
          (asked_ends a es number names register_number (loop_execution es number) loop.is_cut s.named
          (λ h. subst (λ (t : List (List Access)). final_value t (loop_execution es number) 0 ≡ writes_in es) (sym r.accesses)
          (ends_stated es number loop s.numbering h)))
          (asked_met a es number names register_name register_number (loop_execution es number) s.laws s.code s.finds r.candidate (reads_stated es number));
    }

-- no other execution does
pub only_stated : (a : Puts) (register_name : ℕ → List ℕ) (register_number : List ℕ → Option ℕ) (es : List Edge) (number : ℕ
    → ℕ) (names : List (List ℕ)) (x : Execution) → IsSetUp a register_name register_number es number names
    → IsMetBy a register_name register_number es number names x → x ≡ loop_execution es number
only_stated a register_name register_number es number names x s w = (stated a register_name register_number es number names x s w).is

-- all edges stand in it
pub met_stand : (a : Puts) (register_name : ℕ → List ℕ) (register_number : List ℕ → Option ℕ) (es : List Edge) (number : ℕ
    → ℕ) (names : List (List ℕ)) (x : Execution) → IsSetUp a register_name register_number es number names
    → IsMetBy a register_name register_number es number names x → AllStand es (loop_program a es number) x
met_stand a register_name register_number es number names x s w =
    let t = stated a register_name register_number es number names x s w in
    all_stand a.name (loop_codes a es number) es number x (record {
      loop_of = s.code.loop_of;
      codes_of = are_codes a es number s.laws s.code.loop_of;
      candidate = w.candidate;
    }) s.numbering t.accesses t.is

-- it has a cycle of the four relations
pub met_cyclic : (a : Puts) (register_name : ℕ → List ℕ) (register_number : List ℕ → Option ℕ) (es : List Edge) (number : ℕ
    → ℕ) (names : List (List ℕ)) (x : Execution) → IsSetUp a register_name register_number es number names
    → IsMetBy a register_name register_number es number names x → HasCycle (accesses_in (loop_program a es number) x) x
met_cyclic a register_name register_number es number names x s w =
    grind (arith, stated a register_name register_number es number names x s w, loop_cycle es number s.code.loop_of.loop s.numbering)

-- and so it isn't coherent
pub met_incoherent : (a : Puts) (register_name : ℕ → List ℕ) (register_number : List ℕ → Option ℕ) (es : List Edge) (number : ℕ
    → ℕ) (names : List (List ℕ)) (x : Execution) → IsSetUp a register_name register_number es number names
    → IsMetBy a register_name register_number es number names x → IsCoherentIn (loop_program a es number) x → ⊥
met_incoherent a register_name register_number es number names x s w coherent =
    let cycle = met_cyclic a register_name register_number es number names x s w in
    (candidates_are_sc_per_location (loop_program a es number) x w.candidate within).0 coherent cycle.access cycle.between cycle.path
  where
    same : accesses_in (loop_program a es number) x ≡ loop_accesses es number
    same = (stated a register_name register_number es number names x s w).accesses

    within : WritesWithin (accesses_in (loop_program a es number) x) (loop_program a es number).places
    within place v h =
        let k = (numbered es number s.code.loop_of.loop s.numbering).writes v place h.0 (ap (λ (t : List (List Access)). at_name t v) (sym same) ∙ h.1) in
        omega (arith, k.place_is, one_move es s.code.loop_of.loop.is_cut)
