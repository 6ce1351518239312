-- The words and lemmas of other libraries, and the words of specs/, that the proofs of this crate use.
pub use Rattle.std.proofs.Common.{List, None, Some, [], ap, append-nil, append_assoc, arith, drop, false, length, length-append, refl, subst, suc, sym, take, true, zero, zero-add, ℕ, ◌++◌, ◌+◌, ◌-◌, ◌<◌, ◌==◌, ◌^◌, ◌∙◌, ◌∷◌, ◌≡◌, ◌≤◌}
pub use Rattle.std.proofs.{Math.Bool.or-false, lemmas.Bool.and_from, lemmas.Bool.and_parts, lemmas.Bool.not-false, lemmas.Bool.not-true, lemmas.Bool.or_right}
pub use Rattle.std.proofs.lemmas.Fmt.{decimal_nonempty, digits_decimal, digits_value-decimal}
pub use Rattle.std.proofs.lemmas.List.{append_cancel_right, drop-drop, drop_at, map-append, take-append-drop, take_at}
pub use Rattle.std.proofs.{lemmas.List.Elements.filter-append, lemmas.List.Folds.list_all-append, lemmas.List.Folds.list_any-append}
pub use Rattle.std.proofs.{lemmas.List.Sums.fold-append, lemmas.List.Sums.sum_by-append, lemmas.Simd.map-map, lemmas.Slice.Eq.bytes_eq-Decides}
pub use Rattle.std.specs.{BTreeSet.insert_key, Char.is_ascii_digit, Cmp.Lexicographic.slice_cmp}
pub use Rattle.std.specs.{List.AllByRecursion, List.filter, List.flat_map, List.list_all, List.list_any, List.slice_split, Option.option_map}
pub use Rattle.std.specs.Ordering.{nat_cmp, ordering_reverse}
pub use Rattle.std.specs.Prelude.{Bool, Err, Ok, Option, Result, codes, cond, decimal, fold, map, nat_le, nat_lt, not, replicate, ◌&&◌, ◌||◌}
pub use Rattle.std.specs.{Str.bytes_eq, Str.Parse.digits_value, declared.cmp.Ordering.Ordering}
pub use Rattle.std.specs.declared.cmp.Ordering.TheVariants.{Equal, Greater, Less}
unfoldable pub use Rattle.std.specs.Fmt.{digits}
pub use Rattle.diy_io.specs.Count.{last_count}
pub use Rattle.list_laws.proofs.{Cases.by_test, Cases.eq_swap, Digits.digits_model, Elements.all_append, Elements.all_parts, Elements.list_all-weaker}
pub use Rattle.log_sum.proofs.Grammar.{files_by_blocks, judged_text}
pub use Rattle.log_sum.specs.Counts.{count_of_digits}
pub use Rattle.log_sum.specs.Facts.{Entry, Fact, Row, a_condition, a_hash, a_kind, a_row, conditions, facts_of, fault_if, first_of, hashes, is_other, kinds, row_with, rows, same_kind, same_state_mark, says_validated, tests_of, verdicts, with_test_name}
pub use Rattle.log_sum.specs.JudgedLaws.{files_both, same_mark_is}
pub use Rattle.log_sum.specs.LineReading.{Said, a_state, after_state, begins, condition_said, conditioned, counts, ends, hash_said, hashed, judged, kind_at, left_at, no_test, outside_said, passed_over, rest_said, states_left, test_after}
pub use Rattle.log_sum.specs.LogLines.{mark_read, quantifier, row_counted, row_marked, row_of, verdict_cut}
pub use Rattle.log_sum.specs.LogReading.{LogSeen, at_next_line, end_judged, fact_put, files_judged, is_too_long, lines_judged, next_line, nothing_seen, said_to}
pub use Rattle.log_sum.specs.LogStates.{and_then, has_left, is_bracketed, is_side, later_forms, later_unblanked, left_kept, or_bad, sides_read, with_equality}
pub use Rattle.log_sum.specs.Representing.{Kept, Represents, kept_table, kept_text}
pub use Rattle.log_sum.specs.SumText.{filling, how_often, mark_sign, sum_kind_word, verdict_end, verdict_word}
pub use Rattle.log_sum.specs.Summed.{StateSummed, Summed, is_validated, some_or, state_by, validated_by}
pub use Rattle.log_sum.specs.{Texts.before_end, Texts.begins_with, Texts.ends_with, Texts.joined_words, Texts.later_words, declared.errors.LogError.LogError}
pub use Rattle.log_sum.specs.declared.errors.LogKind.{LogKind}
pub use Rattle.log_sum.specs.declared.errors.LogKind.TheVariants.{ConditionDiffers, HashDiffers}
unfoldable pub use Rattle.log_sum.specs.{Counts.count_read, Facts.fact_fault, Facts.mark_in, Facts.marked_sum, Facts.state_sum, Facts.states_of}
unfoldable pub use Rattle.log_sum.specs.{LineReading.fact_said, LineReading.log_line_said, LineReading.place_after, LogGrammar.log_texts}
unfoldable pub use Rattle.log_sum.specs.LogLines.{condition_line, hash_line, histogram_line, log_row, test_line}
unfoldable pub use Rattle.log_sum.specs.LogReading.{file_judged, last_judged, line_judged, text_judged}
unfoldable pub use Rattle.log_sum.specs.{LogStates.form_read, LogStates.state_form, LogStates.state_read, LogStates.with_pieces, Representing.logs_text, Representing.logs_table}
unfoldable pub use Rattle.log_sum.specs.SumText.{claim_text, condition_text, hash_text, head_text, observation_text, state_line, sum_text, sum_verdict_text, summed_text, table_line, table_text}
unfoldable pub use Rattle.log_sum.specs.Summed.{summed}
pub use Rattle.log_sum_laws.specs.Laws.{IsSum, KeepsSumLimits, NoFault, Represent, SumOfSums, SumsAreLogs, a_log, a_sum, none}
pub use Rattle.text_parts.proofs.BlankLaws.{before_twice, end_stays, ink_stays, trimmed_class, unblanked_spaces}
pub use Rattle.text_parts.proofs.{CutLaws.all_both, CutLaws.cut_back, CutLaws.cut_parts, LineLaws.class_kept}
pub use Rattle.text_parts.proofs.OrderLaws.{Above, Ascends, above_all, any_fold, bytes_same, compare, fold_ascends, insert_ascends, is_text, none_above, order, reversed}
pub use Rattle.text_parts.proofs.{PieceLaws.first_piece, PieceLaws.split_off, RunLaws.after_class, RunLaws.after_halts, RunLaws.stops, RunLaws.whole_run}
pub use Rattle.text_parts.proofs.WordLaws.{one_word, words_both}
pub use Rattle.text_parts.specs.{Blanks.is_blank, Blanks.is_inked, Blanks.kept_before, Blanks.trim_blanks, Blanks.unblanked, Cuts.CutParts}
pub use Rattle.text_parts.specs.{Lines.but_last, Lines.is_line_feed, Lines.last_of, ReadingSteps.◌>>=◌, Words.is_nil}
unfoldable pub use Rattle.text_parts.specs.{Blanks.before_blanks, Cuts.cut_at, LeadingRuns.after_run, LeadingRuns.leading_run}
unfoldable pub use Rattle.text_parts.specs.{Lines.unended, Lines.whole_lines, Lines.without_return, Words.words}
