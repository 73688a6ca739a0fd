use Rattle.aprs_details.specs.CommentTelemetry.{telemetry_at}
use Rattle.aprs_details.specs.SaidTelemetry.{BeginsWithTelemetry}
use Rattle.aprs_details.proofs.FirstReadings.{first_found, first_takes}
use Rattle.aprs_details.proofs.SaidTelemetry.{telemetry_is_what_begins}
use Rattle.aprs_details.proofs.laws.first_comment_telemetry_is_read.Goals as goal

pub returns : goal.returns
returns c = record {
  there = λ comment t e. first_found BeginsWithTelemetry telemetry_at telemetry_is_what_begins comment t e;
  read = λ comment t h. first_takes BeginsWithTelemetry telemetry_at telemetry_is_what_begins comment t h;
}
