use Rattle.aprs_lists.proofs.Common.{refl}
use Rattle.std.specs.Fmt.{digits}
use Rattle.aprs_lists.proofs.examples.listing.reports_have_lines.Goals as goal

pub returns : goal.returns
unfolding digits
returns c = record {
  position = refl;
  status = refl;
  object = refl;
  item = refl;
  misses_message = refl;
  misses_ack = refl;
  misses_rej = refl;
  misses_raw = refl;
  unknown = refl;
}
