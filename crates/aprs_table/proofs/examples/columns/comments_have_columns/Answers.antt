use Rattle.aprs_table.proofs.Common.{refl}
use Rattle.aprs_table.proofs.Steps.{line_of}
use Rattle.aprs_table.proofs.examples.columns.comments_have_columns.Goals as goal

pub returns : goal.returns
unfolding line_of
returns c = record {
  motion = refl;
  range = refl;
  compressed_range = refl;
  transmitter = refl;
  frequency = refl;
  offset_below = refl;
  no_tone = refl;
  no_speed = refl;
}
