-- The words and lemmas of other libraries, and the words of specs/, that the proofs of this crate use.
pub use Rattle.std.proofs.Common.{ap, append_assoc, arith, eqb-true, get_or, inl, inr, length-append, refl, subst, sym, ◌∙◌}
pub use Rattle.std.proofs.Math.Bool.{and-true, and_comm, beq}
pub use Rattle.std.proofs.Math.Seq.{drop-append_seam}
pub use Rattle.std.proofs.lemmas.Bool.{and_parts, cases_order, cond-false, cond-true, cond_both, eq-eqb, false≢true, le-leb, leb-true, lt-ltb, ltb-true, not-true, or_cases, or_left, or_right}
pub use Rattle.std.proofs.lemmas.Grind.{common_steps, flat_map-append}
pub use Rattle.std.proofs.lemmas.List.{append-nil, drop-map, length-drop, length-map, length-take, map-append, map_push, take-append-drop, take-map, take_at}
pub use Rattle.std.proofs.lemmas.List.Folds.{find-append, list_all-append, list_all_at, list_any-append}
pub use Rattle.std.proofs.lemmas.Option.{same_Some}
pub use Rattle.std.proofs.lemmas.Result.{err_from_is_err_and}
pub use Rattle.std.specs.Cmp.{booleans_Decides}
pub use Rattle.std.specs.Cmp.Lexicographic.{bytes_decides, slice_cmp}
pub use Rattle.std.specs.List.{before_first, find, flat_map, join_by, list_all, list_any, onto_first, position_or_len, slice_split}
pub use Rattle.std.specs.Option.{option_map, option_or}
pub use Rattle.std.specs.Ordering.{is_lt, nat_cmp, ordering_index, ordering_then}
pub use Rattle.std.specs.Prelude.{Bool, Err, IsOk, List, MatchOption, None, Ok, Option, Result, Some, [], codes, cond, drop, false, filter, length, map, nat_eq, nat_le, nat_lt, not, slice_get, suc, take, true, unwrap_or, zero, ℕ, ◌&&◌, ◌*◌, ◌++◌, ◌+◌, ◌-◌, ◌<◌, ◌==◌, ◌||◌, ◌∷◌, ◌≡◌, ◌≤◌, ◌⊎◌}
pub use Rattle.std.specs.Str.{bytes_eq}
pub use Rattle.std.specs.declared.cmp.Ordering.{Ordering}
pub use Rattle.std.specs.declared.cmp.Ordering.TheVariants.{Equal, Greater, Less}
pub use Rattle.edge_algebra_laws.proofs.Joining.{joined_marks, same_dir_is, same_mark_is}
pub use Rattle.edge_algebra_laws.proofs.Laws.{cycle_of_rotation}
pub use Rattle.edge_algebra_laws.proofs.Marks.{marked_edge_is, marked_edge_of}
pub use Rattle.edge_algebra_laws.proofs.Ordering.{above_of_ranks}
pub use Rattle.edge_algebra_laws.proofs.RankLaws.{each_edge, rank_below, rank_injective}
pub use Rattle.edge_algebra_laws.proofs.Rotating.{place_of_rotation, rotation_back, rotation_length, rotation_of_place, rotation_on, rotation_same}
pub use Rattle.edge_algebra_laws.proofs.SpellingLaws.{edge_of-word_of, word_short}
pub use Rattle.edge_algebra_laws.proofs.Turning.{IsStepwise, stepwise_turned}
pub use Rattle.edge_algebra_laws.specs.Composable.{IsCycle, first_break, is_closed}
pub use Rattle.edge_algebra_laws.specs.CycleOrder.{IsLeast, ranks_below}
pub use Rattle.edge_algebra_laws.specs.Rotation.{IsRotation, rotated}
pub use Rattle.cycle_names.specs.CycleNames.{after_plus, all_equal, plural}
unfoldable pub use Rattle.cycle_names.specs.CycleNames.{links_text, name_from, name_of}
pub use Rattle.cycle_names.specs.Families.{all_families, family_edges, family_word}
pub use Rattle.cycle_names.specs.Fitting.{IsNamedAt, JoinNone, JoinsLeast, JoinsNone, comes_before, edge_slot, has_word_rank, joins_at, link_text, word_ranks_below, separator_text, slot_edge, word_rank}
pub use Rattle.cycle_names.specs.Laws.{FamiliesApart, IsName, IsNamed, NamesAreNames, NamesDecide, NamesNone, NamesReadBack, are_of_arch}
pub use Rattle.cycle_names.specs.LinkWords.{edge_of_slot, kind_link_text, link_word, link_words, mark_letters, outline}
pub use Rattle.cycle_names.specs.NameReading.{AddsEdges, after_word, begins_with_word, edges_of_words, filled_alike, filled_each, first_mark, first_name_word, is_dash, is_link, is_plus, last_mark, link_with, marked_along, marked_around, marked_between, marked_if, named_family, slot_with, slots_filled, without_last_byte, words_read}
unfoldable pub use Rattle.cycle_names.specs.NameReading.{edges_read, link_between}
pub use Rattle.cycle_names.specs.Rotations.{all_unmarked, edges_below, fits_family, is_of_family, is_plain_before, is_plain_outside, joins_as, least_of, rotation_in, rotations, words_below}
unfoldable pub use Rattle.cycle_names.specs.Rotations.{found_family, named_rotation}
pub use Rattle.cycle_names.specs.declared.family.Family.{Family}
pub use Rattle.cycle_names.specs.declared.link.TheConstants.{MAX_LINK, PO_RANK}
pub use Rattle.cycle_names.specs.declared.name.TheConstants.{MAX_CYCLE_NAME}
pub use Rattle.cycle_names.specs.declared.read.NotAName.{NotAName}
pub use Rattle.cycle_names.specs.declared.slot.Slot.{Slot}
pub use Rattle.cycle_names.specs.declared.words.TheConstants.{MAX_SEPARATED}
pub use Rattle.edge_algebra.specs.Compose.{composed, unbroken}
pub use Rattle.edge_algebra.specs.ComposingLaws.{composes_exactly}
pub use Rattle.edge_algebra.specs.declared.errors.CycleError.{CycleError}
pub use Rattle.edge_algebra.specs.declared.errors.CycleError.TheVariants.{TooLong}
pub use Rattle.list_laws.proofs.Cases.{by_less, by_option, by_test, implied}
pub use Rattle.relax_edges.proofs.Ranks.{same_index}
pub use Rattle.list_laws.proofs.Elements.{rest-cons}
pub use Rattle.list_laws.proofs.Places.{before_first-no, position_or_len-no}
pub use Rattle.list_laws.specs.Numbers.{upto}
unfoldable pub use Rattle.relax_edges.specs.AllEdges.{edges_in_order}
pub use Rattle.relax_edges.specs.EdgeTable.{is_diff, is_external, joins_to, kind_of, same_dir, source_mark, source_of, target_mark, target_of, unmarked}
unfoldable pub use Rattle.relax_edges.specs.EdgeTable.{marked_edge}
pub use Rattle.relax_edges.specs.JoinedEdges.{is_joined}
pub use Rattle.relax_edges.specs.NamedEdges.{fre, pod, rfe, wse}
unfoldable pub use Rattle.relax_edges.specs.Order.{rank_of}
pub use Rattle.relax_edges.specs.ReadEdges.{before_edges}
pub use Rattle.relax_edges.specs.Order.{is_same}
unfoldable pub use Rattle.relax_edges.specs.Spelling.{edge_of}
pub use Rattle.relax_edges.specs.WordParts.{word_of}
pub use Rattle.relax_edges.specs.declared.TheConstants.{MAX_EDGES}
pub use Rattle.relax_edges.specs.declared.edge.Edge.{Edge}
pub use Rattle.relax_edges.specs.declared.kinds.ArchName.{ArchName}
pub use Rattle.relax_edges.specs.declared.kinds.Dir.{Dir}
pub use Rattle.relax_edges.specs.declared.kinds.Dir.TheVariants.{R, W}
pub use Rattle.relax_edges.specs.declared.kinds.Kind.{Kind}
pub use Rattle.relax_edges.specs.declared.kinds.Mark.{Mark}
pub use Rattle.relax_edges.specs.declared.kinds.Mark.TheVariants.{Plain}
pub use Rattle.relax_edges.specs.declared.kinds.Reach.TheVariants.{Internal}
pub use Rattle.relax_edges.specs.declared.kinds.Sd.TheVariants.{Diff}
pub use Rattle.relax_edges.specs.declared.order.TheConstants.{EDGES}
pub use Rattle.text_parts.proofs.PieceLaws.{split_off, split_whole}
pub use Rattle.text_parts.specs.Names.{is_name_byte}
