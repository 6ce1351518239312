-- The printed text of a coherence test is read as a test that shows incoherence.
use Rattle.co_tests.proofs.Vocabulary.{◌≡◌, ℕ, ◌+◌, ◌<◌, true, List, [], ◌∷◌, length, get_or, map, Some, slice_get, refl, sym, ◌∙◌, ap, subst, arith, AllByRecursion, slice_get_within, slice_get-get_or, ArchName, Avoid, Edge, kind_of, Meets, edge_at, ends_outside, move_count, thread_of, slot_of, ends_with, WritesCells, MakesOneAccess, IsArch, location_name, number_in, Puts, ThreadCode, compiled, Writing, WritesBack, name_in, makes_steps, length-letters, links_of, TestReadsBack, is_in, op_is_in, place_in, or_zero, reread, TestRead, test_text, IsAmong, none_among, push_among, few_names, Execution, IsNumbering, AllStand, Program, IsCandidate, IsCoherentIn, accesses_in, got_map, event_step, thread_steps, final_state, IsRenumbered, plain, test_of, all_gets, renumbered_program, registers_found, program_read, reads_back, numbered_in, place_is_in, by_table, got_is, reread_test, threads_numbered, intended_same, links_apart, cut_open, HasCoherenceTest, coherence_steps, coherence_test_of, incoherent_execution, MeetsReading, HasCycle, BytesShowIncoherence, PrintedShowIncoherence}
use Rattle.co_tests.proofs.Values.{Cut, IsCut, cut_there, none_diff, one_move, one_location}
use Rattle.co_tests.proofs.{Events.loop_execution, Events.stated_is, Events.ordering_inside, Fits.loop_thread, ConditionMet.{HasLoopCode, are_codes, loop_codes}}
use Rattle.bytes_force_cycles.specs.AnyValues.{RunsThrough}
use Rattle.bytes_force_cycles.proofs.SomeInterleaving.{runs_through}
use Rattle.co_tests.proofs.ForcedIncoherence.{IsSetUp, IsMetBy, loop_program, stated_meets, only_stated, met_stand, met_cyclic, met_incoherent}
use Rattle.co_tests.proofs.Readable.{place_names, place_name, first_found, is_step, readable}

-- the name of the place is in the table
name_is_in : (a : Puts) (es : List Edge) (table : List (List ℕ)) → IsArch a → HasLoopCode a es
    → AllByRecursion (λ (t : ThreadCode). AllByRecursion (λ op. op_is_in table (name_in (place_names es)) op ≡ true) t.instrs)
    (map (compiled a) (coherence_steps es))
    → AllByRecursion (λ link. is_in table (name_in (place_names es) link.1.1) ≡ true) (links_of 0 (map (compiled a) (coherence_steps es)))
    → is_in table (location_name 0) ≡ true
name_is_in a es table laws t inside linked =
    let c = t.loop_of.loop.is_cut in
    let names = name_in (place_names es) in
    let k = thread_of (cut_open es) 0 in
    let steps = thread_steps (cut_open es) plain k in
    let s = is_step es 0 t.loop_of.loop (omega (arith, c.within)) in
    let fit = (loop_thread es plain a.name k steps t.loop_of s.steps_at).fit in
    let code_at = got_map (compiled a) (coherence_steps es) k steps s.steps_at in
    let threads = map (compiled a) (coherence_steps es) in
    let ins = all_gets (λ (code : ThreadCode). AllByRecursion (λ op. op_is_in table names op ≡ true) code.instrs) threads k (compiled a steps) inside code_at in
    let outs = all_gets (λ (code : ThreadCode). AllByRecursion (λ (link : ℕ × ℕ). is_in table (names link.1) ≡ true) code.links) threads k (compiled a steps)
    (links_apart (λ place. is_in table (names place) ≡ true) 0 threads linked) code_at in
    let stands = place_is_in table names steps (compiled a steps) (slot_of (cut_open es) 0) (event_step (cut_open es) plain 0)
    (makes_steps a laws steps fit) ins outs s.step_at in
    subst (λ name. is_in table name ≡ true) (ap names (one_location es 0 c) ∙ got_is (place_names es) 0 (location_name 0) (place_name es c)) stands

-- a table with the name of the place, of names of the place alone, has it once, at its beginning
record IsTable (es : List Edge) (table : List (List ℕ)) : Type 0 where
  count : length table ≡ 1
  first : slice_get table 0 ≡ Some (location_name 0)
  numbers : place_in table (location_name 0) ≡ 0

one_name : (es : List Edge) (table : List (List ℕ)) → IsCut es → IsAmong table (place_names es) → is_in table (location_name 0) ≡ true → IsTable es table
one_name es table c among inside =
    let one : IsAmong (location_name 0 ∷ []) table = push_among [] table (location_name 0) (none_among table) refl inside in
    let more = few_names (location_name 0 ∷ []) table one in
    let less = few_names table (place_names es) among in
    let found = numbered_in table (location_name 0) inside in
    let count : length table ≡ 1 = omega (arith, more, less, length-letters (move_count (cut_open es)), one_move es c) in
    let zero_is : found.number ≡ 0 = omega (arith, found.below, count) in
    record {
      count = count;
      first = slice_get-get_or table 0 [] (omega (arith, count)) ∙ ap Some (ap (λ k. get_or table k []) (sym zero_is) ∙ found.names);
      numbers = ap or_zero found.is ∙ zero_is;
    }

-- the place's number in what is read
table_zero : (es : List Edge) (table : List (List ℕ)) → IsCut es → IsTable es table → by_table table (place_names es) 0 ≡ 0
table_zero es table c t = ap (place_in table) (got_is (place_names es) 0 (location_name 0) (place_name es c)) ∙ t.numbers

table_numbering : (es : List Edge) (table : List (List ℕ)) → IsCut es → IsTable es table → IsNumbering (cut_open es) (by_table table (place_names es))
table_numbering es table c t = grind (arith, one_move es c, table_zero es table c t)

-- what is read of the printed test by way of the table is the test but for the numbers of places
read_renumbered : (a : Puts) (register_name : ℕ → List ℕ) (es : List Edge) (table : List (List ℕ)) → IsCut es → IsTable es table
    → IsRenumbered (test_of a register_name (cut_open es) Avoid) (reread_test table (coherence_test_of a register_name es)) (by_table table (place_names es))
read_renumbered a register_name es table c t = record {
  threads = refl;
  count = omega (arith, t.count, length-letters (move_count (cut_open es)), one_move es c);
  names = λ place name g.
      grind (arith, slice_get_within (place_names es) place name g, length-letters (move_count (cut_open es)), one_move es c, table_zero es table c t, place_name es c);
  cond = refl;
}

-- the bytes of a coherence test that reads back show incoherence
pub bytes_show : (a : Puts) (arch : ArchName) (w : Writing) (name : List ℕ) (es : List Edge) → IsArch a → WritesBack a w → HasLoopCode a es
    → TestReadsBack arch w name (coherence_test_of a (name_in w.registers) es)
    → BytesShowIncoherence arch w name (test_text arch w name (coherence_test_of a (name_in w.registers) es)) es
bytes_show a arch w name es laws back t r = record {
  test = test;
  reads = r.read;
  named = refl;
  quotes = refl;
  runs = subst (RunsThrough (program_read test)) stated (subst (λ (p : Program). RunsThrough p (loop_execution es number)) program_is
      (runs_through (loop_codes a es number) (cut_open es) Avoid number (loop_execution es number) (are_codes a es number laws t.loop_of)
      (stated_meets a (name_in w.registers) (number_in w.registers) es number r.table set_up).candidate));
  asks = refl;
  exists = subst (MeetsReading w test) stated (meets (loop_execution es number) (stated_meets a (name_in w.registers)
      (number_in w.registers) es number r.table set_up));
  only = λ x m. only_stated a (name_in w.registers) (number_in w.registers) es number r.table x set_up (met x m) ∙ stated;
  stand = λ x m. subst (λ (p : Program). AllStand es p x) program_is (met_stand a (name_in w.registers) (number_in w.registers) es number r.table x set_up
      (met x m));
  cyclic = λ x m. subst (λ (p : Program). HasCycle (accesses_in p x) x) program_is (met_cyclic a (name_in w.registers)
      (number_in w.registers) es number r.table x set_up (met x m));
  incoherent = λ x m coherent. met_incoherent a (name_in w.registers) (number_in w.registers) es number r.table x set_up (met x m)
      (subst (λ (p : Program). IsCoherentIn p x) (sym program_is) coherent);
}
  where
    test : TestRead
    test = reread r.table name (coherence_test_of a (name_in w.registers) es)

    c : IsCut es
    c = t.loop_of.loop.is_cut

    number : ℕ → ℕ
    number = by_table r.table (place_names es)

    table : IsTable es r.table
    table = one_name es r.table c (record { once = r.once; inside = r.among }) (name_is_in a es r.table laws t r.codes r.links)

    set_up : IsSetUp a (name_in w.registers) (number_in w.registers) es number r.table
    set_up = grind (arith, registers_found a w back, table_numbering es r.table c table, first_found r.table (location_name 0) table.first)

    stated : loop_execution es number ≡ incoherent_execution es
    stated = sym (stated_is es number c (table_numbering es r.table c table))
        ∙ intended_same (cut_open es) Avoid number plain (λ l h. let z : l ≡ 0 = omega (arith, h, one_move es c) in
        omega (arith, ap number z, table_zero es r.table c table, z))

    program_is : loop_program a es number ≡ program_read test
    program_is =
        renumbered_program a (name_in w.registers) (cut_open es) Avoid (reread_test r.table (coherence_test_of a (name_in w.registers) es)) number
        (read_renumbered a (name_in w.registers) es r.table c table)
        ∙ (λ i. record {
          places = length r.table;
          threads = threads_numbered r.table (place_names es)
              (coherence_test_of a (name_in w.registers) es).threads i;
        })

    met : (x : Execution) → MeetsReading w test x → IsMetBy a (name_in w.registers) (number_in w.registers) es number r.table x
    met x m = record {
      candidate = subst (λ (p : Program). IsCandidate p x) (sym program_is) m.candidate;
      meets = subst (λ (p : Program). Meets (final_state p r.table (number_in w.registers) x) test.cond) (sym program_is) m.meets;
    }

    meets : (x : Execution) → IsMetBy a (name_in w.registers) (number_in w.registers) es number r.table x → MeetsReading w test x
    meets x m = record {
      candidate = subst (λ (p : Program). IsCandidate p x) program_is m.candidate;
      meets = subst (λ (p : Program). Meets (final_state p r.table (number_in w.registers) x) test.cond) program_is m.meets;
    }

-- the cut isn't the last edge
cut_within : (es : List Edge) (c : Cut es) → ends_outside es ≡ true → c.at + 1 < length es
cut_within es c o = grind (arith, ends_with, ordering_inside (edge_at es c.at) (kind_of (edge_at es c.at)) refl c.ordering)

-- a cycle that has a coherence test is one over one location, with code
pub has_code : (a : Puts) (es : List Edge) → HasCoherenceTest a es → HasLoopCode a es
has_code a es t = record {
  loop_of = record {
    loop = record { composes = t.composes; outside = t.outside; threads = t.threads; is_cut = is_cut };
    of_arch = t.of_arch;
    few_writes = t.few_writes;
  };
  room = t.room;
}
  where
    cut : Cut es
    cut = cut_there es t.has_cut

    is_cut : IsCut es
    is_cut = record {
      cut = cut;
      same = λ i h. none_diff es i t.one_location h;
      within = cut_within es cut t.outside;
    }

-- the printed text of each coherence test shows incoherence
pub printed_show : (a : Puts) (arch : ArchName) (w : Writing) → IsArch a → WritesBack a w → WritesCells a w → MakesOneAccess a → PrintedShowIncoherence a arch w
printed_show a arch w laws back cells one name es named t = grind (arith, has_code a es t, bytes_show, reads_back, readable)
