use Rattle.aprs_lists.proofs.Shapes.{message_line, station_line, thing_line}
use Rattle.aprs_lists.proofs.laws.listed_lines_have_all_fields.Goals as goal

pub returns : goal.returns
returns c = record {
  messages = message_line;
  stations = station_line;
  things = thing_line;
}
