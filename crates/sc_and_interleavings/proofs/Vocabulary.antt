-- The words and lemmas of other libraries, and the words of specs/, that the proofs of this crate use.
pub use Rattle.std.proofs.Common.{append-nil, Bool, List, None, Option, Some, [], ap, append_assoc, arith, cond, false, inl, inr, length, map, not, refl, slice_get, subst, suc, sym, take, true, zero, ℕ, ◌&&◌, ◌++◌, ◌+◌, ◌-◌, ◌<◌, ◌==◌, ◌||◌, ◌∙◌, ◌∷◌, ◌≡◌, ◌≤◌}
pub use Rattle.std.proofs.lemmas.Bool.{and_from, and_parts, cond-false, cond-true, eq-eqb, eqb-true, le-ltb, lt-ltb, ltb-true}
pub use Rattle.std.proofs.lemmas.List.Sums.{count_by-le-length, length-filter, sum_by-cons}
pub use Rattle.std.proofs.lemmas.Option.{slice_get_past, slice_get_within}
pub use Rattle.std.specs.{List.count_by, List.filter, List.filter_map, List.find, List.list_all, Option.option_and_then}
pub use Rattle.std.specs.Prelude.{if◌then◌else◌, nat_lt, unwrap_or, ◌⊎◌}
pub use Rattle.accesses_force_cycles.proofs.Accesses.{EventAt, LoadAt, by_origin, event_at_name, observer_thread, thread_accesses}
pub use Rattle.accesses_force_cycles.proofs.{AllStand.access_of_visit, ResolvedFacts.moves, ResolvedFacts.resolves}
pub use Rattle.accesses_force_cycles.proofs.IntendedExists.{intended_is_execution, last_of_order}
pub use Rattle.accesses_force_cycles.proofs.IntendedOrders.{gives_writes, place_is_value, place_of_value}
pub use Rattle.accesses_force_cycles.proofs.Lists.{Got, got_below, got_map, image_of, length-filter_map-upto, rank_filter, same_below, same_by_gets, slice_get-filter_map-upto}
pub use Rattle.accesses_force_cycles.proofs.OnlyOne.{FromBefore, from_before}
pub use Rattle.accesses_force_cycles.proofs.Orders.{Holds, found_at, order_by_steps, order_place_at}
pub use Rattle.accesses_force_cycles.proofs.Resolves.{IsWrite, Resolves, later_slot, written_by}
pub use Rattle.accesses_force_cycles.proofs.WriteEvents.{NthWrite, more_than, nth_write, ordered_write-is, rank_below, write_event}
pub use Rattle.accesses_force_cycles.specs.Joining.{EndsAsAsked, MakesAccesses, ReadsAsAsked, accesses_filled, value_taken, values_left, values_read}
pub use Rattle.cycle_events.proofs.{ValuesAlongEdges.value_at_end, ValuesAlongEdges.values_grow, ValuesAlongEdges.values_up, Arcs.leaving}
pub use Rattle.cycle_events.proofs.CycleRound.{after_before, after_below, before_below, by_after}
pub use Rattle.cycle_events.proofs.{Locations.moves_most, Locations.moves_on, Locations.moves_up, Threads.thread_up, TurnedRound.by_way, TurnedRound.only_on_way}
pub use Rattle.cycle_events.specs.Resolution.{IsResolved, edge_at, event_after, event_before, events_in, external_count, location_of, move_count, moves_before, slot_of, thread_of}
pub use Rattle.cycle_events.specs.Values.{is_observed, is_write, value_of, way_place, write_at, write_count}
pub use Rattle.list_laws.proofs.{Cases.by_less, Cases.by_option, Cases.by_same, Cases.by_test, Numbers.length-map-upto, Numbers.slice_get-map-upto}
pub use Rattle.list_laws.proofs.Ranks.{unrank_upto}
pub use Rattle.list_laws.specs.Numbers.{upto}
pub use Rattle.micro_ops.specs.Machine.{Effect, ThreadState, step}
pub use Rattle.micro_ops.specs.Running.{At, OnRun, Outcome, Past, Point, Run, Stuck, Wants, add_item, beginning, exec, go, is_load, led, outcome, run_ended, runs}
pub use Rattle.micro_ops.specs.{declared.operation.Item.Item, declared.operation.Micro.Micro}
pub use Rattle.program_meaning.proofs.{Candidates.candidate_means, Candidates.writes_there_means, Candidates.writes_to_from, CoherenceLaws.coheres_means}
pub use Rattle.program_meaning.proofs.{ElementTests.every_name, Names.GotFrom, Names.at_name_of, Names.got_from_list, Names.same_write-refl, Names.same_write-true}
pub use Rattle.program_meaning.proofs.Runs.{accesses-count}
pub use Rattle.program_meaning.specs.Accesses.{Access, Barred, accesses_of, at_name, got_from, is_read, read, reads_among, reads_before, reads_by, visits_from, visits_of, write}
pub use Rattle.program_meaning.specs.Coherence.{IsCoherent, MayFollow, coherence_place, final_value, last_write, named_by, order_at, order_place, placed_by, source_at, value_of_access}
pub use Rattle.program_meaning.specs.Deciding.{every, is_candidate, name}
pub use Rattle.program_meaning.specs.Executions.{AreReadsOf, CanRead, Execution, IsExecutionOf, IsOrderOf, same_write}
pub use Rattle.program_meaning.specs.Intended.{IsNumbering, cycle_accesses, event_access, intended, observed_locations, ordered_write}
pub use Rattle.program_meaning.specs.Interleavings.{GivesValues, IsInterleaving, IsInterleavingOf, accesses_on, latest, runs_on, value_after, writes_in, writes_there}
pub use Rattle.program_meaning.specs.Programs.{HasEnded, IsCandidate, IsCoherentIn, Program, Thread, accesses_in, made_in, run_of, runs_of, visits_in}
pub use Rattle.program_meaning.specs.Standing.{AccessAt, AllStand, AreAt, CommunicatesBy, Joins, Reaches, access_at, event_name}
pub use Rattle.program_meaning.specs.declared.WriteAt.{WriteAt}
unfoldable pub use Rattle.program_meaning.specs.{Deciding.are_distinct, Deciding.are_reads, Intended.location_order}
pub use Rattle.relax_edges.specs.EdgeTable.{is_diff, is_external, kind_of, kind_place, kind_reach, kind_source, kind_target, sd_of, source_of, target_of}
pub use Rattle.relax_edges.specs.{declared.edge.Edge.Edge, declared.kinds.Dir.Dir, declared.kinds.Kind.Kind, declared.kinds.ObsMode.ObsMode}
pub use Rattle.relax_edges.specs.{declared.kinds.Reach.TheVariants.External, declared.kinds.Reach.TheVariants.Internal, declared.kinds.Sd.Sd}
pub use Rattle.relax_edges.specs.{declared.kinds.Sd.TheVariants.Diff, declared.kinds.Sd.TheVariants.Same, declared.kinds.Value.Value}
pub use Rattle.sc_and_interleavings.specs.Along.{IsAlong, values_in}
pub use Rattle.sc_and_interleavings.specs.CoherenceLaws.{CandidatesAreScPerLocation, CoherenceIsScPerLocation, CycleTestsAreScPerLocation, WritesWithin}
pub use Rattle.sc_and_interleavings.specs.InterleavingLaws.{InterleavingsMakeExecutions, SequentialIsCoherent, StandingIsNotSequential}
pub use Rattle.sc_and_interleavings.specs.{LinkLaws.EachLinkCloses, LinkLaws.KeptOrdersForbid, LinkLaws.OthersAreKept, LinkLaws.StandingIsOutcome}
pub use Rattle.sc_and_interleavings.specs.Links.{Cohere, GlobalStep, IsKept, IsOrdering, IsPathOf, KeepsEach, KeepsOthers, Kept, Lives, Overwrite, PrecedesBut, Read, is_ordering}
pub use Rattle.sc_and_interleavings.specs.{Made.before, Made.made_by}
pub use Rattle.sc_and_interleavings.specs.Relations.{Co, CoherenceOrder, Fr, FromRead, IsAccessOf, IsBefore, IsPathOfSteps, IsReadOf, IsScPerLocation, IsWriteTo, Po, ProgramOrder, ReadsFrom, Rf, Step}
pub use Rattle.sc_and_interleavings.specs.Sequential.{ByCo, ByFr, ByPo, ByRf, HasNoCycle, IsPathBy, IsSequential, Precedes, StepBy}
pub use Rattle.sc_and_interleavings.specs.SequentialLaws.{AlongIsSequential, SequentialGoesAlong}
unfoldable pub use Rattle.sc_and_interleavings.specs.Made.{all_reads, reads_from}
