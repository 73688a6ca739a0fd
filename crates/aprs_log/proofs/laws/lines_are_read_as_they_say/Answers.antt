use Rattle.aprs_log.proofs.Common.{subst}
use Rattle.aprs_log.specs.LineText.{IsWrongLine}
use Rattle.aprs_log.proofs.LineTexts.{line_of-passed, line_of-reports, line_of-wrong, passed-line_of, reports-line_of, wrong-line_of}
use Rattle.aprs_log.proofs.laws.lines_are_read_as_they_say.Goals as goal

pub returns : goal.returns
returns c = record {
  heard = λ l x. (reports-line_of l x, line_of-reports l x);
  passed = λ l. (passed-line_of l, line_of-passed l);
  wrong = λ l cause. (
    wrong-line_of l cause,
    λ h. subst (IsWrongLine l) h.2 (line_of-wrong l h.0 h.1),
  );
}
