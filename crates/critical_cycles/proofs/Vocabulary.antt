-- The words and lemmas of other libraries, and the words of specs/, that the proofs of this crate use.
pub use Rattle.std.proofs.Common.{append-nil, Bool, List, None, Option, Some, [], ap, append_assoc, arith, cond, false, inl, inr, length}
pub use Rattle.std.proofs.Common.{length-append, map, not, refl, slice_get, subst, suc, sym, take, true, zero, ℕ, ◌&&◌, ◌++◌, ◌+◌, ◌-◌, ◌<◌}
pub use Rattle.std.proofs.Common.{◌==◌, ◌||◌, ◌∙◌, ◌∷◌, ◌≡◌, ◌≤◌}
pub use Rattle.std.proofs.lemmas.Bool.{and_from, and_parts, cond-false, cond-true, eq-eqb, eqb-true, lt-ltb, ltb-true, ne_eqb}
pub use Rattle.std.proofs.lemmas.{List.Concat.flat_map-append, List.Sums.sum_by-cons, List.length-map, List.map-append}
pub use Rattle.std.proofs.lemmas.{Map.Keys.IsDistinct-from_apart, Map.Keys.apart_from_distinct}
pub use Rattle.std.proofs.lemmas.Option.{get_or_from_slice_get, slice_get-map, slice_get_within}
pub use Rattle.std.specs.{List.AllByRecursion, List.count_by, List.flat_map, List.list_any, Option.option_map}
pub use Rattle.std.specs.Prelude.{nat_lt, ◌↔◌, ◌≢◌, ◌⊎◌}
pub use Rattle.cycle_events.proofs.{CycleRound.by_after, Arcs.location_cases, Arcs.several_locations, Arcs.thread_below, EdgeCounts.PassingEdge}
pub use Rattle.cycle_events.proofs.{EdgeCounts.passing, Locations.location_first}
pub use Rattle.cycle_events.proofs.{Arcs.location_below, Locations.external_keeps, Locations.location-zero, Locations.location_wrapped}
pub use Rattle.cycle_events.proofs.{Locations.moves_end}
pub use Rattle.cycle_events.proofs.Rotations.{coherence_alike, external_count-append, move_count-append, outside_after, renumbered}
pub use Rattle.cycle_events.proofs.{Rotations.edge_second, Rotations.thread_first, Threads.thread-zero, Threads.thread_end}
pub use Rattle.edge_algebra_laws.proofs.Composing.{turned_cycle}
pub use Rattle.edge_algebra_laws.specs.Rotation.{IsRotation, rotated}
pub use Rattle.list_laws.proofs.{Cases.by_less, Cases.by_option, Cases.by_same, Cases.by_test, Elements.all_append, Elements.all_parts}
pub use Rattle.list_laws.proofs.{Counts.count_upto_less, Distinct.distinct_push, Finds.any_upto_none, Prefixes.count_all}
pub use Rattle.list_laws.proofs.{Prefixes.count_exchanged}
pub use Rattle.list_laws.specs.Numbers.{upto}
pub use Rattle.program_meaning.specs.Accesses.{Access, at_name, read, write}
pub use Rattle.program_meaning.specs.Coherence.{IsCoherent, MayFollow, coherence_place, order_at, order_place, source_at}
pub use Rattle.program_meaning.specs.{Executions.CanRead, Executions.Execution, Executions.IsExecutionOf, Standing.AreAt}
pub use Rattle.program_meaning.specs.{declared.WriteAt.WriteAt}
pub use Rattle.program_meaning.specs.Programs.{IsCandidate, IsCoherentIn, Program, accesses_in, visits_in}
pub use Rattle.relax_edges.specs.{declared.TheConstants.MAX_EDGES, declared.edge.Edge.Edge, declared.kinds.Dir.Dir}
pub use Rattle.relax_edges.specs.{declared.kinds.Kind.Kind}
pub use Rattle.relax_edges.specs.{declared.kinds.Com.TheVariants.Rf, declared.kinds.Mark.TheVariants.Plain}
pub use Rattle.relax_edges.specs.{declared.kinds.Reach.TheVariants.Internal}
pub use Rattle.relax_edges.specs.{declared.kinds.Sd.TheVariants.Diff, JoinedEdges.is_joined}
pub use Rattle.relax_edges.specs.EdgeTable.{is_diff, is_external, joins_to, kind_of, kind_place, reach_of, same_dir, sd_of, source_mark}
pub use Rattle.relax_edges.specs.EdgeTable.{source_of, target_mark, target_of}
pub use Rattle.relax_edges.specs.NamedEdges.{fre, pod, rfe, wse}
pub use Rattle.sc_and_interleavings.proofs.AccessOrder.{comes, earlier_comes, key, lesser_comes}
pub use Rattle.sc_and_interleavings.proofs.Places.{Held, held, place_in}
pub use Rattle.sc_and_interleavings.proofs.Shapes.{read_before, writes_ordered, writes_same}
pub use Rattle.sc_and_interleavings.proofs.Vocabulary.{access_of_visit, moves}
pub use Rattle.sc_and_interleavings.specs.CoherenceLaws.{WritesWithin}
pub use Rattle.sc_and_interleavings.specs.Relations.{CoherenceOrder, FromRead, IsBefore, IsReadOf, IsWriteTo, ReadsFrom}
pub use Rattle.sc_and_interleavings.specs.Sequential.{ByCo, ByFr, ByPo, ByRf, IsPathBy, IsSequential, Precedes, StepBy}
pub use Rattle.critical_cycles.specs.Critical.{AreArcs, CriticalCycle, IsArc, IsBeforeWrite, Moves, Segment, dir_at, dir_of_access}
pub use Rattle.critical_cycles.specs.Critical.{place_at, place_of_access, segments_of, threads_of}
pub use Rattle.critical_cycles.specs.CycleEdges.{AreEvents, AreRelated, EdgeLeads, accesses_of_segment, arc_edges, critical_edges}
pub use Rattle.critical_cycles.specs.CycleEdges.{critical_events, edge_to_write, edges_along, linked_edges, plain_edge}
pub use Rattle.critical_cycles.specs.Links.{AreLinkedEvents, IsLink, IsPlainOrLink, LinkedCyclesHaveEvents}
pub use Rattle.critical_cycles.specs.Listed.{Arc, IsCriticalBy, ListedAreCritical, Part, edges_of_arc, edges_of_part}
