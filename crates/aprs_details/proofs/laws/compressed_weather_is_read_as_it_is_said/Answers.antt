use Rattle.aprs_details.proofs.WeatherReports.{compressed_said, compressed_takes}
use Rattle.aprs_details.proofs.laws.compressed_weather_is_read_as_it_is_said.Goals as goal

pub returns : goal.returns
returns c = record {
  of_comment = λ cst comment. compressed_said cst comment;
  comment_is_read = λ cst comment w h. compressed_takes cst comment w h;
}
