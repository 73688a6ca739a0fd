use Rattle.aprs_log.proofs.Common.{◌≡◌, Result, ap, arith, ◌∙◌, [], codes, Ok, sym}
use Rattle.aprs_log.specs.Examples.{heard_after, hi_digits, hi_line, line_by, noon, unended_line}
use Rattle.aprs_log.specs.Line.{line_of}
use Rattle.aprs_log.specs.Reception.{Received}
use Rattle.aprs_log.specs.declared.fault.LineFault.{LineFault}
use Rattle.aprs_log.specs.declared.line.Line.{Line}
use Rattle.aprs_log.specs.declared.fault.Reason.TheVariants as reason
use Rattle.aprs_log.specs.declared.line.Line.TheVariants as line
use Rattle.aprs_log.proofs.LineTexts.{line_of-passed, line_of-reports, reports-line_of}
use Rattle.aprs_log.proofs.Worked.{empty_read, half_line_read, hi_read, unended_read}
use Rattle.aprs_log.proofs.examples.lines_report_frames.Goals as goal

reception_of : (x y : Received) (r : Result Line LineFault) → r ≡ Ok (line.Heard x)
    → r ≡ Ok (line.Heard y) → x ≡ y
reception_of x y r e f = cc

pub returns : goal.returns
returns c = record {
  reports = line_of-reports hi_line (heard_after 0) hi_read;
  millis =
      line_of-reports (line_by (codes "2024-05-01T12:00:00.500Z") hi_digits) (heard_after 500)
      half_line_read;
  misses_moment = λ h.
      let same = ap (λ (x : Received). x.moment) (reception_of (heard_after 0) (heard_after 1)
      (line_of hi_line) hi_read (reports-line_of hi_line (heard_after 1) h)) in omega (arith, same);
  passed = line_of-passed unended_line (reason.Unended, unended_read);
  misses_unended = λ x h.
      let same : Ok (line.Passed reason.Unended) ≡ Ok (line.Heard x)
      = sym unended_read ∙ reports-line_of unended_line x h in absurd cc;
  empty = line_of-passed (line_by noon []) (reason.NoFrame, empty_read);
}
