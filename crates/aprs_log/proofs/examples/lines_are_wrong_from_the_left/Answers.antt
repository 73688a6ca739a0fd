use Rattle.aprs_log.proofs.Common.{◌≡◌, ◌∙◌, ◌++◌, codes, Ok, Err, sym, ap}
use Rattle.aprs_log.specs.Examples.{leap_line, line_by, noon, unended_line}
use Rattle.aprs_log.specs.Fault.{log_cause_of}
use Rattle.aprs_log.specs.declared.fault.LineFault.TheVariants as fault
use Rattle.aprs_log.specs.declared.fault.LogCause.TheVariants as why
use Rattle.aprs_log.specs.declared.fault.Reason.TheVariants as reason
use Rattle.aprs_log.specs.declared.line.Line.TheVariants as line
use Rattle.aprs_log.proofs.LineTexts.{err_same, line_of-wrong, wrong-line_of}
use Rattle.aprs_log.proofs.Worked.{later_read, leap_line_read, odd_read, unended_read, unnamed_read}
use Rattle.aprs_log.proofs.examples.lines_are_wrong_from_the_left.Goals as goal

pub returns : goal.returns
returns c = record {
  moment = line_of-wrong leap_line fault.Moment leap_line_read;
  receiver = line_of-wrong (noon ++ codes " RX.1 c0") fault.Receiver unnamed_read;
  hex = line_of-wrong (line_by noon (codes "c")) fault.Hex odd_read;
  misses_later = λ h.
      let refused = wrong-line_of (leap_line ++ codes "0") why.Hex h in
      let same = err_same fault.Moment refused.0 _ later_read refused.1 in
      let bad : why.Moment ≡ why.Hex = ap log_cause_of same ∙ refused.2 in absurd cc;
  misses_passed = λ h.
      let refused = wrong-line_of unended_line why.Hex h in
      let bad : Ok (line.Passed reason.Unended) ≡ Err refused.0
      = sym unended_read ∙ refused.1 in absurd cc;
}
