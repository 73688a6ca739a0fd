use Rattle.aprs_table.proofs.Common.{refl}
use Rattle.std.specs.Fmt.{digits}
use Rattle.hex.specs.Hex.{encode_with}
use Rattle.aprs_table.proofs.examples.cells.fields_have_texts.Goals as goal

pub returns : goal.returns
unfolding digits encode_with
returns c = record {
  plain = refl;
  shown = refl;
  call = refl;
  number = refl;
  below = refl;
  degrees = refl;
  north = refl;
  east = refl;
  ambiguity = refl;
  ambiguity_of_compressed = refl;
  compressed = refl;
  misses_compressed = refl;
  symbol = refl;
  altitude = refl;
  says = refl;
  yes = refl;
  no = refl;
  current = refl;
  old = refl;
  range = refl;
  finer_north = refl;
  finer_east = refl;
  unknown = refl;
  nowhere = refl;
  after_a_tab = refl;
}
