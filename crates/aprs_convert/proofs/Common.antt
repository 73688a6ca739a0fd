-- What this crate's proofs cite of the crates below.
pub use Rattle.aprs_ax25.specs.FrameFault.{frame_or_fault}
pub use Rattle.aprs_ax25.specs.declared.fault.FrameFault.{FrameFault}
pub use Rattle.aprs_io.proofs.Sends.{Calls-none, Calls-then, Sends-is}
pub use Rattle.aprs_io.proofs.Shows.{shown-plain}
pub use Rattle.aprs_io.specs.declared.input.TheConstants.{MAX_INPUT}
pub use Rattle.aprs_kiss.proofs.Bytes.{AppendsPrefix-more, AppendsPrefix-then, on_err}
pub use Rattle.aprs_kiss.specs.Device.{AppendsPrefix, Calls, Going, device_of}
pub use Rattle.aprs_kiss.specs.Judgement.{Judgement}
pub use Rattle.aprs_kiss.specs.Stream.{judgements_of, rest_of}
pub use Rattle.aprs_log.proofs.LineTexts.{line_of-passed, line_of-reports, passed-line_of, reports-line_of}
pub use Rattle.aprs_log.proofs.Lines.{HasFields, line_of-syntax}
pub use Rattle.aprs_log.proofs.LogTexts.{answers-log_fault, answers-log_text, line_lacks, log_fault-answers, log_text-answers}
pub use Rattle.aprs_log.proofs.Worked.{hi_read, unended_read}
pub use Rattle.aprs_log.specs.Examples.{heard_after, hi_line, unended_line}
pub use Rattle.aprs_log.specs.Fault.{log_cause_of, reason_name}
pub use Rattle.aprs_log.specs.Line.{frame_in, heard_or_passed, line_of, written_line}
pub use Rattle.aprs_log.specs.LogAnswers.{Answers, Gets, answers_from, answers_of, end_with, fault_at, is_lf, log_answers, prepend_line, receptions_of, tail_cause, then_answers}
pub use Rattle.aprs_log.specs.LogText.{HasLogFault, IsLogText, ReportAll, text_of_lines}
pub use Rattle.aprs_log.specs.Reader.{AreAnswersOf, Awaits, current_of, lent_device, line_count_of, loan_of, stop_of}
pub use Rattle.aprs_log.specs.declared.InputEnd.{InputEnd}
pub use Rattle.aprs_log.specs.declared.fault.LogFault.{LogFault}
pub use Rattle.aprs_log.specs.declared.fault.Reason.{Reason}
pub use Rattle.aprs_log.specs.declared.line.Line.{Line}
pub use Rattle.std.proofs.Common.{Err, IfSome, List, None, Ok, Option, Result, Some, [], ap, append-nil, append_assoc, arith, codes, get_or, inl, inr, length, map, refl, rules, subst, sym, take, ℕ, ◌*◌, ◌++◌, ◌+◌, ◌-◌, ◌∙◌, ◌∷◌, ◌≡◌, ◌≤◌, ◌⊎◌}
pub use Rattle.std.proofs.KnownBytes.{Appends-nil, Appends-trans, Consumes-nil, Consumes-trans}
pub use Rattle.std.proofs.lemmas.List.{flat_map_more}
pub use Rattle.std.proofs.lemmas.Result.{err_from_is_err_and}
pub use Rattle.std.specs.Io.KnownBytes.{Appends, Consumes}
pub use Rattle.std.specs.List.{AllZip, cons_option, filter_map, flat_map, slice_split}
