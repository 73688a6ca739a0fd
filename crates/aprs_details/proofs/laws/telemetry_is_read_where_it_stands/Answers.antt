use Rattle.aprs_details.proofs.Telemetries.{telemetry_found, telemetry_takes}
use Rattle.aprs_details.proofs.laws.telemetry_is_read_where_it_stands.Goals as goal

pub returns : goal.returns
returns c = record {
  there = λ info t e. telemetry_found info t e;
  read = λ info t h. telemetry_takes info t h;
}
