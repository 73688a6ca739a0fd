use Rattle.aprs_report.proofs.Readings.{one_reading, reading_iff}
use Rattle.aprs_report.proofs.laws.each_field_has_one_reading.Goals as goal

pub returns : goal.returns
returns c = record { one = one_reading; function = reading_iff }
