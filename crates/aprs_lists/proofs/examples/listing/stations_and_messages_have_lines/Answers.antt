use Rattle.aprs_lists.proofs.Common.{refl}
use Rattle.std.specs.Fmt.{digits}
use Rattle.aprs_lists.proofs.examples.listing.stations_and_messages_have_lines.Goals as goal

pub returns : goal.returns
unfolding digits
returns c = record {
  station = refl;
  message = refl;
}
