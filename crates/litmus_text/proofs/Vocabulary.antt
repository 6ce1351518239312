-- The words and lemmas of other libraries, and the words of specs/, that the proofs of this crate use.
pub use Rattle.arch_trait.proofs.Spelling.{instr_back}
pub use Rattle.arch_trait.specs.Cells.{WritesCells, access_count, first_word, is_access, is_cell_byte, is_label_op, is_line_byte}
pub use Rattle.arch_trait.specs.InstructionReading.{ReadInstr, instr_read, number_raw, operands_if, read_numbered, with_label, with_place, written_in}
pub use Rattle.arch_trait.specs.PlaceNames.{names_added, number_added, number_in, number_or_next, with_name}
pub use Rattle.arch_trait.specs.Writing.{Name, OperandTexts, RawInstr, WritesBack, Writing, Written, bracketed, is_well_named, label, label_name, name_in, none, nothing, one, op_name, op_text, place, three, two, with_number}
pub use Rattle.arch_trait.specs.{ByteLaws.place_in_cell, Codes.thread_code_of, LabelOrder.is_next, LabelOrder.labels_after, LabelOrder.labels_in, SeenTests.TestSeen, Threads.Puts, Threads.ThreadCode}
unfoldable pub use Rattle.arch_trait.specs.{Cells.ends_rows, InstructionReading.operands_in, Writing.immediate_number, Writing.inside_brackets}
pub use Rattle.arch_trait.specs.declared.{arch.TheConstants.MAX_INSTRUCTION_TEXT, code.Code.Code, reading.InstrError.InstrError}
pub use Rattle.diy_io.specs.PageLaws.{page_more, page_nothing, sends_of, sends_same, sends_stopped, sends_then, sent_line, sent_nothing, sent_part, sent_part_more, sent_same, sent_wrote, unsent_wrote}
pub use Rattle.diy_io.specs.{Page.Sends, Page.SentAll, Page.page_after, Wrote.SinkSeen, Wrote.WrotePart}
pub use Rattle.diy_io.specs.declared.{errors.Failed.Failed, page.TheConstants.LINE_ROOM, page.TheConstants.SPILL}
pub use Rattle.edge_algebra_laws.proofs.RankLaws.{each_edge}
pub use Rattle.final_cond.proofs.BackLaws.{closing, joining, left_back, left_unblanked, opening_back, right_back, term_parts}
pub use Rattle.final_cond.specs.ConditionReading.{Fault, end_at_start, found, has_form, only_known}
pub use Rattle.final_cond.specs.Conditions.{AtPlace, CondSeen, InRegister, LeftSeen, TermSeen, left_view, term_view}
pub use Rattle.final_cond.specs.{CondText.quantifier_word, CondText.terms_text, CondTextLaws.PassLeft, CondTextLaws.left_passes, CondTextLaws.terms_pass, ConditionAnswers.fault_view}
unfoldable pub use Rattle.final_cond.specs.ConditionReading.{follow_read, left_at_start, left_read, opening_read, right_read, sign_read, value_read}
unfoldable pub use Rattle.final_cond.specs.CondText.{cond_text, left_text, term_text}
pub use Rattle.final_cond.specs.declared.{cond.Quantifier.Quantifier, cond.Quantifier.TheVariants.Exists, cond.Quantifier.TheVariants.Forall, cond.Quantifier.TheVariants.NotExists, cond.TheConstants.MAX_TERMS}
pub use Rattle.final_cond.specs.declared.{errors.CondKind.TheVariants.BadTerm, read.Follow.Follow}
pub use Rattle.list_laws.proofs.{Cases.by_test, Distinct.distinct_push, Elements.all_append, Elements.all_parts, Elements.list_all-weaker, Places.none_passes}
pub use Rattle.list_laws.specs.Errors.{unless, with_before}
pub use Rattle.litmus_text.specs.Condition.{CondEntry, CondPart, CondRead, Setting, a_naming, a_term, an_error, at_begin, condition_of, error_in, over_in_line, names_in, term_in, term_part, follow_part, with_follow}
pub use Rattle.litmus_text.specs.ConditionScan.{Mentioned, TermRead, TermsRead, and_more, before_read, left_put, none_over}
pub use Rattle.litmus_text.specs.InitialState.{Begun, Braced, InitialItem, Worth, a_number, a_place, address_begun, brace_ends, braced_read, closed, empty, gives, initial_line, is_given, item_if, item_parts, item_put, item_with, nothing_begun, open_to, some_item, whole_left, with_value, with_worth, worth_if, worth_of, zero_at}
pub use Rattle.litmus_text.specs.Items.{Link, LinkFits, link_values, links_mention, links_of, links_once}
pub use Rattle.litmus_text.specs.TestReadsBack.{TestReadsBack, is_in, left_is_in, op_is_in}
pub use Rattle.litmus_text.specs.Progress.{CodeFits, OpFits, RowProgress, advanced, code_lands, column_at, is_placed, mentioned_first, moved, progress, row_mentions}
pub use Rattle.litmus_text.specs.ReadTerms.{TermFits, is_known, left_mention, terms_mention}
pub use Rattle.litmus_text.specs.Runnable.{AllNameRegisters, AllRunnable, IsRunnable, NamesRegisters, ops_in}
pub use Rattle.litmus_text.specs.TableScan.{before_columns, cell_if, instr_or_nothing, instr_put}
pub use Rattle.litmus_text.specs.TestTable.{Cells, Column, TableEntry, WithPlaces, a_fault, an_instr, cells_if, column_by, comes_once, entries_if, entry_if, entry_in_line, entry_or_nothing, fault_in, fits_in_column, head_error, end_error, is_head, is_label_of, is_label_row, label_named, label_of, labels_by, landing_error, lands_among, no_column, no_columns, op_after, op_in, op_numbered, over_in, place_named, place_of, placed_in, places_by, with_after, with_names, with_places}
pub use Rattle.litmus_text.specs.TextLines.{Lines, bad, ends, is_comment, line, line_kept}
pub use Rattle.litmus_text.specs.Views.{begun_seen, cells_seen, column_seen, joined_seen, mentioned_seen, pieces_if, pieces_left, setting_seen, term_read_seen, text_left}
pub use Rattle.litmus_text.specs.{Header.quote_cut, Joined.Joined, Joined.no_text, Joined.with_text, KeptCells.HoldsColumn, KeptCells.all_texts, PaddedCells.PutsCell, PaddedCells.padded_at, PaddedCells.text_in}
pub use Rattle.litmus_text.specs.{Placing.mentioned, Placing.op_renumbered, Placing.place_in, Printable.IsTestName, Printable.is_row_byte, ReadingAnswers.GivesInMemory, Reread.IsReadable, Reread.reread, Reread.thread_reread}
pub use Rattle.litmus_text.specs.{Separators.padded, Separators.separator_at, TablePlan.column_so_far, TablePlan.label_table, TablePlan.placed_from, TestReading.ThreadRead, TestReading.threads_of, TestReading.values_of_thread}
pub use Rattle.litmus_text.specs.{TestText.columns_of, TestText.items_lines, TestText.with_line_feed, Tests.test_seen, TextCuts.pieces, TextPartLaws.text_begins, TextParts.PutsPart, TextParts.text_from}
unfoldable pub use Rattle.litmus_text.specs.Header.{after_settings, arch_read, header_read, is_setting, quote_read}
unfoldable pub use Rattle.litmus_text.specs.InitialState.{braced, initial_read, item_of, item_read, items_read}
unfoldable pub use Rattle.litmus_text.specs.TableScan.{cell_read, instr_in, row_read, rows_scanned}
unfoldable pub use Rattle.litmus_text.specs.TestTable.{after_locations, all_labels_judged, cell_entries, cells_of, entries_in, head_read, heads_read, rows_read}
unfoldable pub use Rattle.litmus_text.specs.TestText.{cell_text, column_of, edges_line, header_line, initial_lines, item_text, row_count, row_line, table_lines, test_lines, test_text, width_of}
unfoldable pub use Rattle.litmus_text.specs.{Condition.cond_here, Condition.condition_read, Condition.entries_of, ConditionScan.cond_scanned, ConditionScan.term_here, ConditionScan.terms_here, Joined.all_joined}
unfoldable pub use Rattle.litmus_text.specs.{TestReading.arch_in_text, TestReading.lines_read, TestReading.test_read, TextLines.is_passed, TextLines.lines_from, TextLines.lines_in}
unfoldable pub use Rattle.litmus_text.specs.{TextParts.part_lines, TextParts.parts_left, TextParts.rows_from, Views.body_read, Views.rest_read, Views.table_read}
pub use Rattle.litmus_text.specs.declared.errors.TestKind.TheVariants.{BadCondition, BadHeader, BadInit, BadInstruction, BadLabel, BadQuote, BadTable, EndMissing, TooLarge}
pub use Rattle.litmus_text.specs.declared.{cell.TheConstants.CELL_ROOM, column.TheConstants.KEPT_CELLS, errors.ReadError.ReadError, errors.TextError.TextError, head.TheConstants.WORD_ROOM}
pub use Rattle.litmus_text.specs.declared.{initial.TheConstants.ITEM_ROOM, limits.TheConstants.MAX_ROWS, limits.TheConstants.MAX_THREADS, parts.TextPart.TextPart}
pub use Rattle.litmus_text.specs.declared.{parts.TextPart.TheVariants.Edges, parts.TextPart.TheVariants.Items, parts.TextPart.TheVariants.Row, reading.table.Placed.Placed}
pub use Rattle.micro_ops.specs.Running.{is_load, lands, occurs, occurs_if, target}
pub use Rattle.micro_ops.specs.Machines.{InRange}
pub use Rattle.micro_ops.specs.declared.{operation.Barrier.TheVariants.Fence, operation.Micro.Micro}
pub use Rattle.relax_edges.specs.{Architectures.arch_word, WordParts.word_of}
unfoldable pub use Rattle.relax_edges.specs.AllEdges.{edges_in_order}
pub use Rattle.relax_edges.specs.declared.kinds.ArchName.TheVariants.{AArch64, ARM, PPC, RISCV, X86}
pub use Rattle.relax_edges.specs.declared.{edge.Edge.Edge, kinds.ArchName.ArchName, kinds.Com.TheVariants.Fr, kinds.Com.TheVariants.Rf, kinds.Com.TheVariants.Ws, kinds.DepKind.TheVariants.Addr}
pub use Rattle.relax_edges.specs.declared.{kinds.FenceKind.TheVariants.LwSync, kinds.FenceKind.TheVariants.MFence, kinds.Reach.TheVariants.External, kinds.Sd.TheVariants.Diff, kinds.Value.Value}
pub use Rattle.std.proofs.Common.{add-one, add-zero, ap, append-nil, append_assoc, arith, drop, fold, get_or, inl, inr, length-append, length-take, max, refl, subst, sym, zero-add, ◌*◌, ◌-◌, ◌^◌, ◌∙◌, ◌≢◌, ◌⊎◌}
pub use Rattle.std.proofs.Math.Seq.{drop-cons, drop-length, take-append-add, take-append_seam, take-length}
pub use Rattle.std.proofs.lemmas.Bool.{and_from, and_parts, cases_lt, eq-eqb, eqb-false, eqb-true, le-ltb, leb-true, lt-ltb, ltb-true, ne_eqb, not-true}
pub use Rattle.std.proofs.lemmas.List.{drop-replicate, drop-set-lt, drop_all, drop_more, get_or-append-add, get_or-take, get_or_append_left, get_or_past, length-map, length-replicate, length-take-le, map-append, map-set, map_push, replicate_more, take-append-le, take-replicate, take_all, take_more, take_more_set}
pub use Rattle.std.proofs.lemmas.List.Elements.{All-append, All-filter, All-from_recursion, All-get_or, All-map, All-replicate, recursion_from_All}
pub use Rattle.std.proofs.lemmas.List.FromFn.{get_or-enumerate_from, get_or-range_with_len, length-enumerate_from, length-map-range_with_len, length-range_with_len, map-range_with_len_more}
pub use Rattle.std.proofs.lemmas.List.Sums.{AllPass-from_list_all, fold_more, sum_by-append, sum_by-cons, sum_by_push}
pub use Rattle.std.proofs.{Math.Dec.eqb, Math.Dec.eqb-suc-zero, Math.Dec.eqb-zero-suc, Math.ListN.get_or-map, Math.ListN.replicate, Math.ListN.set, lemmas.Bool.Decides.nat_tests, lemmas.Fmt.decimal_digit, lemmas.Fmt.length-decimal-le}
pub use Rattle.std.proofs.{lemmas.List.Concat.flat_map-append, lemmas.List.Folds.list_all-append, lemmas.List.Splits.slice_split_at, lemmas.List.Splits.slice_split_none, lemmas.Map.Steps.length-le_from_distinct_below}
pub use Rattle.std.proofs.{lemmas.Result.err_from_is_err_and, lemmas.Simd.map-map, lemmas.Slice.Eq.bytes_eq-Decides}
pub use Rattle.std.specs.List.{All, AllByRecursion, enumerate_from, filter, flat_map, join_by, list_all, list_any, position_from, range_with_len, slice_split}
pub use Rattle.std.specs.Prelude.{Bool, Err, List, None, Ok, Option, Result, Some, [], codes, cond, count_by, false, is_some, length, map, nat_eq, nat_le, nat_lt, not, suc, take, true, zero, ℕ, ◌&&◌, ◌++◌, ◌+◌, ◌<◌, ◌==◌, ◌||◌, ◌∷◌, ◌≡◌, ◌≤◌}
pub use Rattle.std.specs.{Char.is_ascii_digit, Fmt.decimal, Result.IsErrAnd, Str.bytes_eq}
unfoldable pub use Rattle.std.specs.{Fmt.digits, List.IsDistinct}
pub use Rattle.text_parts.proofs.BlankLaws.{before_blanks-le, before_padded, inked_ends, kept_inked, spaces_class, trimmed_class, trimmed_padded, trimmed_start, unblanked_spaces}
pub use Rattle.text_parts.proofs.CutLaws.{all_both, cut_back, cut_length, cut_none, without_class}
pub use Rattle.text_parts.proofs.{LineLaws.class_kept, NameLaws.decimal_passes, NameLaws.place_passes, NameLaws.register_passes, NumberLaws.not_digits, OrderLaws.bytes_same, PieceLaws.first_piece, RunLaws.after_run-le, RunLaws.stops}
pub use Rattle.text_parts.proofs.WordLaws.{one_word, words_both}
pub use Rattle.text_parts.specs.Blanks.{is_blank, is_inked, trim_blanks, unblanked}
pub use Rattle.text_parts.specs.{Cuts.CutParts, Cuts.is_without, Lines.but_last, Lines.is_line_feed, Names.is_name_byte, Names.is_place_byte, ReadingSteps.◌>>=◌, Words.is_nil}
unfoldable pub use Rattle.text_parts.specs.{Blanks.before_blanks, Cuts.cut_at, LeadingRuns.after_run, LeadingRuns.leading_run, Lines.without_return, Names.is_place_name, Names.is_register_name, NumberTexts.number_of, Words.words}
