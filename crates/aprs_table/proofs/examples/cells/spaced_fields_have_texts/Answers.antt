use Rattle.aprs_table.proofs.Common.{refl}
use Rattle.std.specs.Fmt.{digits}
use Rattle.hex.specs.Hex.{encode_with}
use Rattle.aprs_log.specs.Moment.{day_after, moment_text_in}
use Rattle.aprs_table.proofs.examples.cells.spaced_fields_have_texts.Goals as goal

pub returns : goal.returns
unfolding digits encode_with day_after moment_text_in
returns c = record {
  plain = refl;
  word = refl;
  call = refl;
  count = refl;
  moment = refl;
  stamp = refl;
  no_stamp = refl;
  degrees = refl;
  ambiguity = refl;
  compressed = refl;
  symbol = refl;
  after_a_space = refl;
}
