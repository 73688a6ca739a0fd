-- What this crate's proofs cite of the crates below.
pub use Rattle.aprs_ax25.proofs.UiFrames.{frame_of-is, is-frame_of}
pub use Rattle.aprs_ax25.specs.FrameFault.{frame_fault, frame_or_fault, unless_fault}
pub use Rattle.aprs_ax25.specs.UiFrame.{IsUiFrame}
pub use Rattle.aprs_ax25.specs.declared.fault.FrameFault.{FrameFault}
pub use Rattle.aprs_rows.specs.RowWith.{row_with}
pub use Rattle.aprs_io.proofs.Outlets.{Puts-fails, Puts-is, Puts-none, Puts-then, Sends-put, Sends-unput}
pub use Rattle.aprs_io.proofs.Sends.{Calls-none, Calls-then}
pub use Rattle.aprs_io.specs.Cut.{is_byte}
pub use Rattle.aprs_io.specs.Device.{Calls, Fault, Going, Rose, Sends}
pub use Rattle.aprs_io.specs.Input.{EndsIfKnown, EndsSo, Gets, last_of_ending, most_input}
pub use Rattle.aprs_io.specs.Outlet.{Puts}
pub use Rattle.aprs_io.specs.declared.device.Counted.{Counted}
pub use Rattle.aprs_io.specs.declared.input.InputEnd.{InputEnd}
pub use Rattle.aprs_transmissions.proofs.Soundness.{sound, witnessed}
pub use Rattle.aprs_transmissions.specs.BookValue.{BookValue, Holds, IsSoundBook}
pub use Rattle.aprs_transmissions.specs.Gap.{IsGap, greatest_gap, millis_of, standard_gap}
pub use Rattle.aprs_transmissions.specs.Row.{Row, last_moment}
pub use Rattle.aprs_transmissions.specs.Sound.{IsSoundRow, Sound}
pub use Rattle.aprs_transmissions.specs.Witnesses.{witnesses}
pub use Rattle.aprs_transmissions.specs.declared.row_cause.RowCause.{RowCause}
pub use Rattle.aprs_log.proofs.Moments.{millis_kept, moment_in-text, moment_text-is, one_text, same_text, text-moment_in}
pub use Rattle.aprs_log.specs.LogText.{HasNoLf, text_of_lines}
pub use Rattle.aprs_log.specs.Moment.{IsWritable, date_text, fraction_text, moment_text, time_text, two_digits}
pub use Rattle.aprs_log.specs.MomentReading.{Civil, civil_text, moment_in}
pub use Rattle.aprs_log.specs.Receiver.{IsName, is_name_byte, is_receiver}
pub use Rattle.aprs_log.specs.Reception.{Received, bytes_cmp}
pub use Rattle.aprs_log.specs.declared.moment_form.MomentForm.{MomentForm}
pub use Rattle.aprs_log.specs.declared.moment_form.MomentForm.TheVariants.{Millis, Seconds}
pub use Rattle.aprs_rows.proofs.Refusals.{none_exactly}
pub use Rattle.aprs_rows.specs.Refusal.{is_refused}
pub use Rattle.hex.proofs.HexLemmas.{decode_of-encode_lower, decode_of-ok, length-encode_with}
pub use Rattle.hex.specs.Hex.{IsBytes, decode_of, encode_lower, lower_digits}
pub use Rattle.std.proofs.Common.{Bool, Err, IfErr, IfOk, IfSome, IsErr, List, None, Ok, Option, Result, Some, [], ap, append-nil, append_assoc, arith, codes, cond, drop, eqb, false, get_or, inl, inr, length, length-append, length-take, map, refl, rules, subst, suc, sym, take, true, zero, ℕ, ◌%◌, ◌*◌, ◌++◌, ◌+◌, ◌-◌, ◌/◌, ◌<◌, ◌^◌, ◌∙◌, ◌∷◌, ◌≡◌, ◌≤◌, ◌⊎◌}
pub use Rattle.std.proofs.Math.Seq.{drop-append-add, take-append-add, take-append_seam}
pub use Rattle.std.proofs.lemmas.Bool.{and_parts, cases_lt, false_from_ne_true, false≢true}
pub use Rattle.std.proofs.lemmas.Bool.Decides.{nat_tests}
pub use Rattle.std.proofs.lemmas.Fmt.{IsAscii-decimal, decimal_by_steps, decimal_digit, decimal_injective, length-decimal-le, parse-decimal}
pub use Rattle.std.proofs.lemmas.List.{flat_map_more, length-map, map_push, nil_from_length, take_more_set, take_rest}
pub use Rattle.std.proofs.lemmas.List.Concat.{flat_map-append}
pub use Rattle.std.proofs.lemmas.List.Elements.{All-cons, All-from_recursion, All-head, All-nil, All-push, All-tail, All-weaker, recursion_from_All}
pub use Rattle.std.proofs.lemmas.Result.{IfErr-weaker, IfOk-weaker, err_from_is_err_and, on_ok_weaker}
pub use Rattle.std.proofs.lemmas.Slice.Eq.{bytes_eq-Decides}
pub use Rattle.std.specs.Fmt.{decimal}
pub use Rattle.std.specs.List.{AllByRecursion, flat_map, join_with_byte, list_all, onto_first}
pub use Rattle.std.specs.Prelude.{All, IfNone, IsTrue, nat_lt, ◌↔◌, ◌≢◌}
pub use Rattle.std.specs.Str.{IsUtf8, bytes_eq}
