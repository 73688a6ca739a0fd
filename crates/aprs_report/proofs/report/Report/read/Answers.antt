use Rattle.aprs_report.proofs.Common.{Some, None}
use Rattle.aprs_report.specs.Reading.{view}
use Rattle.aprs_report.proofs.Readings.{reading_found, form_value}
use Rattle.aprs_report.proofs.report.Report.read.Goals as goal

pub returns-in-Some : goal.returns-in-Some
returns-in-Some c = record {
  reads = reading_found (Some (view c.in-Some.report)) c.args.info.now c.in-Some.ensures;
  value = form_value (Some (view c.in-Some.report)) c.args.info.now c.in-Some.ensures;
}

pub returns-in-None : goal.returns-in-None
returns-in-None c = record {
  reads = reading_found None c.args.info.now c.in-None.ensures;
  value = form_value None c.args.info.now c.in-None.ensures;
}
