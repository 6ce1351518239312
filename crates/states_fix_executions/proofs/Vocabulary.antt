-- The words and lemmas of other libraries, and the words of specs/, that the proofs of this crate use.
pub use Rattle.std.proofs.Common.{Bool, List, None, Option, Some, [], ap, arith, cond, drop, false, inl, inr, length, map, not, refl, slice_get, subst, suc, sym, take, true, zero, ℕ, ◌&&◌, ◌++◌, ◌+◌, ◌-◌, ◌<◌, ◌==◌, ◌||◌, ◌∙◌, ◌∷◌, ◌≡◌, ◌≤◌}
pub use Rattle.std.proofs.lemmas.Bool.{and_from, and_parts, cond-false, cond-true, eq-eqb, eqb-true, le-leb, leb-true}
pub use Rattle.std.proofs.lemmas.{List.length-map, Option.same_Some, Option.slice_get_past, Option.slice_get_within}
pub use Rattle.std.specs.{List.filter, List.find, List.flat_map, List.enumerate_from, List.list_all, List.list_any, List.position_from, List.remove, Option.option_and_then}
pub use Rattle.std.specs.Prelude.{if◌then◌else◌, nat_le, nat_lt, unwrap_or, ◌↔◌, ◌⊎◌}
pub use Rattle.accesses_force_cycles.proofs.Lists.{Got, got_below, got_map, image_of, same_below, same_by_gets}
pub use Rattle.list_laws.proofs.{Cases.by_less, Cases.by_option, Cases.by_same, Cases.by_test, Numbers.length-map-upto, Numbers.slice_get-map-upto}
pub use Rattle.list_laws.proofs.Numbers.{length-upto, slice_get-upto}
pub use Rattle.list_laws.specs.Numbers.{upto}
pub use Rattle.micro_ops.specs.Running.{Outcome}
pub use Rattle.program_meaning.proofs.{Candidates.candidate_from, Candidates.candidate_means, Candidates.writes_there_means, Candidates.writes_to_from}
pub use Rattle.program_meaning.proofs.{CoherenceLaws.coheres_from, CoherenceLaws.coheres_means, Names.at_name_of, Names.got_from_list, Names.same_write-refl, Names.same_write-true, Runs.accesses-count}
pub use Rattle.program_meaning.specs.Accesses.{Access, Visit, accesses_of, at_name, got_from, is_read, read, visits_of, write}
pub use Rattle.program_meaning.specs.Coherence.{coherence_place, final_value, last_write, order_at, order_place, source_at, value_of_access}
pub use Rattle.program_meaning.specs.Deciding.{can_read, coheres, is_candidate, name, writes_there, writes_to, writes_value}
pub use Rattle.program_meaning.specs.Executions.{AreReadsOf, CanRead, Execution, IsExecutionOf, IsOrderOf, same_write}
pub use Rattle.program_meaning.specs.Interleavings.{accesses_on, runs_on, writes_in}
pub use Rattle.program_meaning.specs.Programs.{IsCandidate, IsCoherentIn, Program, Thread, accesses_in, made_in, run_of, runs_of, visits_in}
pub use Rattle.program_meaning.specs.SeenAccesses.{seen_access, seen_accesses, seen_in, seen_in_thread}
pub use Rattle.program_meaning.specs.{declared.WriteAt.WriteAt, declared.seen.SeenAccess.SeenAccess}
pub use Rattle.sc_and_interleavings.proofs.AccessOrder.{Leads, acyclic, comes, comes_by, earlier_comes, key, lesser_comes}
pub use Rattle.sc_and_interleavings.proofs.{InterleavingLaws.sequential_is_coherent, Places.Held, Places.held, Places.place_in}
pub use Rattle.sc_and_interleavings.specs.{Along.values_in, CoherenceLaws.WritesWithin}
pub use Rattle.sc_and_interleavings.specs.Relations.{CoherenceOrder, FromRead, IsBefore, IsReadOf, IsWriteTo, ReadsFrom}
pub use Rattle.sc_and_interleavings.specs.Sequential.{ByCo, ByFr, ByPo, ByRf, IsPathBy, IsSequential, Precedes, StepBy}
pub use Rattle.states_fix_executions.specs.Listed.{are_equal, arrangements, choices, endings, ends_in, ends_with, executions, is_ending, is_sequential, location_orders, names_from, names_of, sources, thread_names, thread_reads, verdict_by, verdict_of, without}
pub use Rattle.states_fix_executions.specs.Ordered.{can_be_ordered, empties, has_to_come, is_free, key_of, taken_away}
pub use Rattle.states_fix_executions.specs.Rebuilt.{Fixes, HasAtMostOne, HasAtMostTwo, HaveOwnValues, IsSettled, is_last, order_by_end, rebuilt, source_by_value, verdict_looked}
pub use Rattle.states_fix_executions.specs.States.{Any, EndsIn, EndsWith, FinalState, HasVerdict, Impossible, Incoherent, Relaxed, Sequential, SomeCoherent, SomeEnding, SomeSequential, Verdict, WriteWithin}
