-- What this crate's proofs cite of the crates below.
pub use Rattle.aprs_ax25.specs.Callsign.{Call, call_cmp, call_text}
pub use Rattle.aprs_summary.specs.Reports.{has_source, is_item_named, is_object_named, is_position_report, report_of, reports_item, reports_object, reports_position, without_spaces}
pub use Rattle.aprs_bookfile.proofs.OneText.{cut_short, one_text}
pub use Rattle.aprs_bookfile.specs.FirstFault.{FirstFault}
pub use Rattle.aprs_bookfile.specs.Text.{IsBookRows, book_text, written_text}
pub use Rattle.aprs_bookfile.specs.Version.{IsVersion, gap_of, header_of}
pub use Rattle.aprs_bookfile.specs.declared.fault.BookFault.{BookFault}
pub use Rattle.aprs_bookfile.specs.declared.version.Version.{Version}
pub use Rattle.aprs_bookfile.specs.declared.version.Version.TheVariants.{One, Three, Two}
pub use Rattle.aprs_convert.proofs.Gots.{got_so}
pub use Rattle.aprs_convert.specs.Ends.{Runs}
pub use Rattle.aprs_convert.specs.Got.{OfGot}
pub use Rattle.aprs_io.proofs.Sends.{Calls-none, Calls-then, Sends-err, Sends-ok}
pub use Rattle.aprs_io.specs.Device.{Calls, Going, Sends, device_of}
pub use Rattle.aprs_io.specs.Input.{Gets, most_input}
pub use Rattle.aprs_io.specs.declared.device.Counted.{Counted}
pub use Rattle.aprs_transmissions.proofs.Books.{book_carries, one_book, turn, unique}
pub use Rattle.aprs_transmissions.proofs.Known.{known_once, rows_know}
pub use Rattle.aprs_transmissions.proofs.Lists.{in_either, in_left, in_right}
pub use Rattle.aprs_transmissions.proofs.RunRows.{book_of_nothing}
pub use Rattle.aprs_transmissions.proofs.Soundness.{exists, witnessed}
pub use Rattle.aprs_transmissions.proofs.Together.{joined_rows, merge_append, together}
pub use Rattle.aprs_transmissions.proofs.Unions.{merged}
pub use Rattle.aprs_transmissions.specs.Best.{LastKnown}
pub use Rattle.aprs_transmissions.specs.BestLaws.{Passes}
pub use Rattle.aprs_transmissions.specs.Book.{BookOf}
pub use Rattle.aprs_transmissions.specs.BookValue.{BookValue, Holds, IsSoundBook, widened_to}
pub use Rattle.aprs_transmissions.specs.Gap.{IsGap, millis_of}
pub use Rattle.aprs_transmissions.specs.JoinRow.{join_row, merge, single}
pub use Rattle.aprs_transmissions.specs.Lists.{Ordered, SameMembers, ◌∈◌}
pub use Rattle.aprs_transmissions.specs.Row.{Row}
pub use Rattle.aprs_transmissions.specs.Sound.{Sound}
pub use Rattle.aprs_transmissions.specs.Witnesses.{witnesses}
pub use Rattle.aprs_transmissions.specs.declared.merge_fault.MergeFault.{MergeFault}
pub use Rattle.aprs_lists.specs.Listing.{known_line, message_line, named_line, report_line, station_lines}
pub use Rattle.aprs_table.specs.SpacedLine.{spaced_line}
pub use Rattle.aprs_log.proofs.LogTexts.{answers-log_fault, answers-log_text, log_fault-answers, log_text-answers}
pub use Rattle.aprs_log.specs.LogAnswers.{Answers, end_with, fault_at, is_lf, log_answers, prepend_line, receptions_of, short_tail_cause, tail_cause}
pub use Rattle.aprs_log.specs.LogText.{IsLogText, ReportAll, text_of_lines}
pub use Rattle.aprs_log.specs.Reader.{AreAnswersOf, Awaits, current_of, lent_device, line_count_of, loan_of, stop_of}
pub use Rattle.aprs_log.specs.Reception.{Received}
pub use Rattle.aprs_log.specs.declared.fault.LogFault.{LogFault}
pub use Rattle.aprs_log.specs.declared.line.Line.{Line}
pub use Rattle.std.proofs.Common.{Bool, Err, IfSome, List, None, Ok, OnOk, Option, Result, Some, [], add-one, ap, append-nil, append_assoc, ap₂, arith, codes, cond, drop, false, get_or, inl, inr, length, length-append, map, not, option_map, refl, rules, set, slice_get, subst, suc, sym, take, take-append-drop, true, zero, ℕ, ◌++◌, ◌+◌, ◌-◌, ◌<◌, ◌==◌, ◌^◌, ◌||◌, ◌∙◌, ◌∷◌, ◌≡◌, ◌≢◌, ◌≤◌}
pub use Rattle.std.proofs.Math.Seq.{drop-append-add, take-append_seam, take-suc-set}
pub use Rattle.std.proofs.lemmas.Bool.Decides.{Decides-eqb, nat_tests}
pub use Rattle.std.proofs.lemmas.List.{drop-map, length-map, map-append, map-set, take_all}
pub use Rattle.std.proofs.lemmas.List.Concat.{flat_map-append}
pub use Rattle.std.proofs.lemmas.Option.{slice_get-get_or, slice_get-map, slice_get_within}
pub use Rattle.std.proofs.lemmas.Result.{err_from_is_err_and}
pub use Rattle.std.proofs.lemmas.Slice.Eq.{bytes_eq-Decides, starts_is}
pub use Rattle.std.specs.Fmt.{decimal}
pub use Rattle.std.specs.Io.KnownBytes.{Consumes}
pub use Rattle.std.specs.List.{flat_map, list_any, position_or_len}
pub use Rattle.std.specs.Prelude.{◌⊎◌}
