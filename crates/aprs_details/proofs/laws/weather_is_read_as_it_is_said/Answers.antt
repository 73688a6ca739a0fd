use Rattle.aprs_details.proofs.WeatherReports.{report_found, report_takes, comment_said, comment_takes}
use Rattle.aprs_details.proofs.laws.weather_is_read_as_it_is_said.Goals as goal

pub returns : goal.returns
returns c = record {
  there = λ info w e. report_found info w e;
  read = λ info w h. report_takes info w h;
  of_comment = λ comment. comment_said comment;
  comment_is_read = λ comment w h. comment_takes comment w h;
}
