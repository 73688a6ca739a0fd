use Rattle.aprs_lists.proofs.Common.{refl}
use Rattle.aprs_transmissions.specs.Key.{key_of}
use Rattle.aprs_details.specs.ThirdParty.{passed_of}
use Rattle.aprs_io.specs.Cut.{cut_at}
use Rattle.aprs_lists.proofs.examples.tables.stations_pass_on_frames.Goals as goal

pub returns : goal.returns
unfolding key_of passed_of cut_at
returns c = record {
  one_of_two = refl;
  none = refl;
  passes = refl;
  any_source = refl;
  misses_colon = refl;
  misses_arrow = refl;
  misses_brace = refl;
}
