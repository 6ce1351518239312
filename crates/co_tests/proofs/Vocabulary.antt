-- The words and lemmas of other libraries, and the words of specs/, that the proofs of this crate use.
pub use Rattle.std.proofs.Common.{Bool, List, None, Option, Some, [], add-one, ap, append-nil, arith, cond, drop, eq-eqb, false, get_or, length, length-append, map, not, refl, slice_get, subst, suc, sym, take, true, zero, ℕ, ◌++◌, ◌+◌, ◌-◌, ◌<◌, ◌∙◌, ◌∷◌, ◌≡◌, ◌≢◌, ◌≤◌}
pub use Rattle.std.proofs.lemmas.Bool.Decides.{nat_tests}
pub use Rattle.std.proofs.lemmas.Bool.{and_from, and_parts, eqb-true, le-leb, leb-true, lt-leb, ltb-false, ne_eqb}
pub use Rattle.std.proofs.lemmas.List.{drop-append-le, drop_all, length-map, map-append, take-append-drop, take-append-le, take_all}
pub use Rattle.std.proofs.lemmas.List.Folds.{list_all-append, list_any-append}
pub use Rattle.std.proofs.lemmas.List.Sums.{count_by-le-length, length-filter, sum_by-append, sum_by-cons}
pub use Rattle.std.proofs.{lemmas.Option.slice_get-get_or, lemmas.Option.slice_get_within, lemmas.Slice.Eq.bytes_eq-Decides}
pub use Rattle.std.specs.List.{AllByRecursion, count_by, filter, filter_map, list_all, list_any, position_from, sum_by}
pub use Rattle.std.specs.Option.{option_map, option_or}
pub use Rattle.std.specs.Prelude.{if◌then◌else◌, is_some, min, nat_le, ◌&&◌, ◌==◌, ◌||◌}
pub use Rattle.accesses_force_cycles.proofs.{Accesses.EventAt, Accesses.observer_thread, Accesses.thread_accesses, AllStand.access_of_visit}
pub use Rattle.accesses_force_cycles.proofs.{ResolvedFacts.goes_outside, ResolvedFacts.is_writing, ResolvedFacts.moves, ResolvedFacts.stays_inside, IntendedOrders.order_got}
pub use Rattle.accesses_force_cycles.proofs.IntendedReads.{stands_at}
pub use Rattle.accesses_force_cycles.proofs.Lists.{filter-map, filter_all, got_below, got_map, image_of, kept, length-filter_map-upto, map-map, map_same, same_below, slice_get-filter_map-upto}
pub use Rattle.accesses_force_cycles.proofs.Numbering.{location_of_number}
pub use Rattle.accesses_force_cycles.proofs.Orders.{Gives, Holds, order_by_steps, order_given, place_given, place_held}
pub use Rattle.accesses_force_cycles.proofs.Programs.{makes_planned}
pub use Rattle.accesses_force_cycles.proofs.ReadLists.{reads_by_source, reads_fixed, reads_given, source_given}
pub use Rattle.accesses_force_cycles.proofs.Resolves.{written_by}
pub use Rattle.accesses_force_cycles.specs.Joining.{ReadsAsAsked, values_read}
pub use Rattle.arch_trait.specs.{Cells.MakesOneAccess, Cells.WritesCells, Codes.AllBelow, Codes.MakesSteps, Laws.InOrder, Laws.IsArch}
pub use Rattle.arch_trait.specs.Links.{branches, depends_on_load, edge_link, is_data, link_is_of}
pub use Rattle.arch_trait.specs.{PlaceNames.letters, PlaceNames.location_name, PlaceNames.number_in, PlaceRenumbering.renumbered, PlaceRenumbering.step_at}
pub use Rattle.arch_trait.specs.Threads.{FitStep, FitSteps, HoldNumbers, Puts, ThreadCode, compiled, control_after, is_load_dir, is_store_dir, loads_in, shape_of, thread_items, visits}
pub use Rattle.arch_trait.specs.{Writing.WritesBack, Writing.Writing, Writing.name_in, declared.arch.TheConstants.MAX_INSTRS}
pub use Rattle.arch_trait.specs.{declared.link.Link.TheVariants.Plain, declared.step.Step.Step}
pub use Rattle.arch_trait.proofs.{WholeRuns.{is_formed, makes_steps}, Codes.thread_short, Tables.{length-letters, location_new}}
pub use Rattle.arch_trait.proofs.{Ordered.compiled_accesses, Ordered.compiled_ordered, Renumbered.renumbered_makes}
pub use Rattle.bytes_force_cycles.proofs.BackLaws.{numbered_in, reads_back}
pub use Rattle.bytes_force_cycles.proofs.Fits.{IsThreadCode, all_links, all_read_terms, each_code, numbers_small}
pub use Rattle.bytes_force_cycles.proofs.FormedFits.{HasPlaces, code_fits, lands_once, links_fit, links_single}
pub use Rattle.bytes_force_cycles.proofs.{Lengths.AreShort, Lengths.IsSmall, Lengths.text_short, MentionedLocations.place_is_in}
pub use Rattle.bytes_force_cycles.proofs.Readable.{formed_terms, ordered_few, registers_short, texts_short}
pub use Rattle.bytes_force_cycles.proofs.RereadTests.{by_table, got_is, intended_same, links_apart, reread_test, threads_numbered}
pub use Rattle.bytes_force_cycles.proofs.SomeTerm.{counted_one, term_most}
pub use Rattle.bytes_force_cycles.specs.Readings.{program_read}
pub use Rattle.co_tests.specs.Arc.{ValuesCountAlongArc, arc_behind}
pub use Rattle.co_tests.specs.CoRefusals.{is_no_coherence, reason_if}
pub use Rattle.co_tests.specs.CoherenceTests.{HasCoherenceTest, coherence_steps, coherence_test_of, incoherent_execution, writes_in}
pub use Rattle.co_tests.specs.CutResolution.{cut_of, cut_open, elsewhere, is_ordering, orders_by}
pub use Rattle.co_tests.specs.Incoherence.{AcceptedHaveTests, BytesShowIncoherence, HasCycle, MeetsReading, PrintedShowIncoherence}
pub use Rattle.test_maker.specs.declared.refusal.Refusal.{Refusal}
pub use Rattle.test_maker.specs.declared.refusal.Refusal.TheVariants.{ManyWrites, NotCoherence, TooFewThreads}
pub use Rattle.cycle_events.proofs.{Arcs.same_moves, CycleRound.after_below, CycleRound.by_after, CycleRound.mark_after, CycleRound.source_after}
pub use Rattle.cycle_events.proofs.EdgeCounts.{counted_kept, counted_on, counted_up, passing}
pub use Rattle.cycle_events.proofs.Locations.{ends_with, moves-zero, moves_end, moves_on}
pub use Rattle.cycle_events.proofs.Sizes.{only_in_slot, thread_has_events, thread_size_most}
pub use Rattle.cycle_events.proofs.Threads.{event_in_slot, slot-zero, slot_in, slot_of_event, slot_out, thread-zero, thread_end, thread_in, thread_out, thread_up}
pub use Rattle.cycle_events.proofs.{Turning.external_count-rotated, Turning.turn_of, ValueArcs.value_on_arc, TurnedRound.way_after, TurnedRound.way_ahead}
pub use Rattle.cycle_events.proofs.Writes.{is_write_number, write_at_from}
pub use Rattle.cycle_events.specs.Resolution.{edge_at, ends_outside, event_before, external_count, move_count, turned}
pub use Rattle.cycle_events.specs.Values.{arc_of, is_after_moves, is_write, is_write_at, writes_counted}
unfoldable pub use Rattle.cycle_events.specs.Resolution.{event_after, events_in, location_of, moves_before, slot_of, thread_of}
unfoldable pub use Rattle.cycle_events.specs.Values.{arc, is_observed, value_of, way, way_place, write_count}
pub use Rattle.edge_algebra_laws.proofs.{Composing.rotated_cycle, Marks.source_mark_fits}
pub use Rattle.edge_algebra_laws.specs.{Composable.IsCycle, Rotation.rotated}
pub use Rattle.final_cond.specs.{Conditions.AtPlace, Conditions.LeftSeen, Conditions.TermSeen, States.Meets}
pub use Rattle.list_laws.proofs.{Cases.by_less, Cases.by_same, Cases.by_test, Counts.count_upto-suc, Counts.count_upto_none, Counts.count_upto_same}
pub use Rattle.list_laws.proofs.{Elements.all_append, Elements.all_parts, Numbers.length-upto, Places.none_foreign, Ranks.filter_upto_no, Ranks.filter_upto_yes}
pub use Rattle.list_laws.proofs.Totals.{classes_total, sum_upto_same}
pub use Rattle.list_laws.specs.Numbers.{upto}
pub use Rattle.litmus_text.proofs.NamesBack.{IsAmong, few_names, none_among, push_among}
pub use Rattle.litmus_text.specs.{Items.LinkFits, Items.links_of, TestReadsBack.TestReadsBack, TestReadsBack.is_in, TestReadsBack.op_is_in}
pub use Rattle.litmus_text.specs.{Placing.or_zero, Placing.place_in, Printable.IsTestName, Progress.CodeFits, Progress.code_lands, ReadTerms.TermFits}
pub use Rattle.litmus_text.specs.{Reread.IsReadable, Reread.reread, TestReading.TestRead, TestText.test_text}
pub use Rattle.program_meaning.proofs.{Names.GotFrom, Names.got_from_list, Runs.accesses-count}
pub use Rattle.program_meaning.specs.Accesses.{Access, Visit, accesses_of, at_name, barriers_after, got_from, is_read, read, reads_among, reads_before, reads_by, write}
pub use Rattle.program_meaning.specs.Coherence.{coherence_place, final_value, last_write, order_at, order_place, placed_by, source_at}
pub use Rattle.program_meaning.specs.Executions.{AreReadsOf, CanRead, Execution, IsExecutionOf, IsOrderOf}
pub use Rattle.program_meaning.specs.Intended.{IsNumbering, event_access, event_at, event_read, location_numbered, observed_locations, observer_accesses, observer_reads, ordered_write, reads_in, write_of}
pub use Rattle.program_meaning.specs.Programs.{IsCandidate, IsCoherentIn, Program, accesses_in, items_in, register_in, visits_in}
pub use Rattle.program_meaning.specs.Standing.{AllStand, AreAt, ComesBefore, CommunicatesBy, HasEvents, IsEvent, Joins, NamedAccess, Reaches, StartsFree, TiesBy, access_at, event_name}
pub use Rattle.program_meaning.specs.declared.WriteAt.{WriteAt}
unfoldable pub use Rattle.program_meaning.specs.Intended.{cycle_accesses, intended, location_order}
pub use Rattle.relax_edges.specs.EdgeTable.{is_diff, is_external, is_of_arch, kind_of, kind_source, kind_target, mark_fits, mark_is_of, reach_of, same_dir, sd_of, source_mark, source_of, target_of}
pub use Rattle.relax_edges.specs.{declared.TheConstants.MAX_EDGES, declared.edge.Edge.Edge, declared.kinds.ArchName.ArchName, declared.kinds.Com.Com}
pub use Rattle.relax_edges.specs.{declared.kinds.Com.TheVariants.Rf, declared.kinds.Dir.Dir, declared.kinds.Kind.Kind, declared.kinds.ObsMode.TheVariants.Avoid}
pub use Rattle.relax_edges.specs.{declared.kinds.Reach.Reach, declared.kinds.Reach.TheVariants.External, declared.kinds.Reach.TheVariants.Internal}
pub use Rattle.relax_edges.specs.{declared.kinds.Sd.Sd, declared.kinds.Sd.TheVariants.Diff, declared.kinds.Sd.TheVariants.Same, declared.kinds.Value.Value}
pub use Rattle.relax_edges.specs.declared.kinds.Value.TheVariants.{Num}
pub use Rattle.sc_and_interleavings.proofs.CoherenceLaws.{candidates_are_sc_per_location}
pub use Rattle.sc_and_interleavings.specs.CoherenceLaws.{WritesWithin}
pub use Rattle.sc_and_interleavings.specs.Relations.{Co, CoherenceOrder, Fr, FromRead, IsBefore, IsWriteTo, Po, ProgramOrder, ReadsFrom}
pub use Rattle.tests_force_cycles.proofs.{EdgeMarks.has_edge, ListElements.all_gets, ListElements.position_first, LinkedAccesses.next_follows}
pub use Rattle.tests_force_cycles.proofs.Headline.{renumbered_program, room_left}
pub use Rattle.tests_force_cycles.proofs.AccessesMade.{asked_enough, candidate_enough, candidate_lists, makes, makes_enough, planned-count, planned_at, planned_reads}
pub use Rattle.tests_force_cycles.proofs.ConditionMet.{IsMet, ShowsRegisters, read_terms, terms_from_threads, terms_of_thread, terms_read}
pub use Rattle.tests_force_cycles.proofs.{PlaceNames.letter_at, RegisterNames.registers_found}
pub use Rattle.tests_force_cycles.proofs.StepsAt.{by_steps, steps-count, steps_few, thread_steps_at}
pub use Rattle.tests_force_cycles.proofs.StepsFit.{Before, IsThread, all_at, fit_from, link_between, link_enters, link_first, link_leaves}
pub use Rattle.tests_force_cycles.proofs.Terms.{load_terms-count, reads-count, sum_map}
pub use Rattle.tests_force_cycles.proofs.TestCodes.{Origin, cycle_codes, cycle_program, numbers_kept, origin_of, steps_numbered}
pub use Rattle.tests_force_cycles.proofs.ThreadRuns.{AreCodesOf, DidThread, ThreadOf, all_end, did_thread, items_below, visits_below}
pub use Rattle.tests_force_cycles.proofs.{LinksMade.ties, MarksAndLinks.external_ties, Visits.ends_free, Visits.step_access, Visits.thread_visits}
pub use Rattle.tests_force_cycles.proofs.VisitsAt.{starts_free, visit_at, visits-count}
pub use Rattle.tests_force_cycles.specs.CycleSteps.{event_link, event_step, numbers_read, thread_steps}
pub use Rattle.tests_force_cycles.specs.{FinalStates.final_state, TestHeadline.FindsRegisters, TestHeadline.IsRenumbered}
pub use Rattle.tests_force_cycles.specs.TestOf.{is_named_location, last_term, last_terms, load_terms, plain, test_of, thread_terms}
pub use Rattle.tests_force_cycles.specs.TestPrograms.{program_of, thread_from}
unfoldable pub use Rattle.tests_force_cycles.specs.CycleSteps.{cycle_steps}
pub use Rattle.text_parts.proofs.NameLaws.{place_name_short}
pub use Rattle.text_parts.specs.Names.{is_place_name}
