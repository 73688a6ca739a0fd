use Rattle.aprs_host.proofs.Common.{refl}
use Rattle.std.specs.Path.{path_file_name, rsplit_once, split_last_component, trim_trailing}
use Rattle.aprs_host.proofs.examples.others_are_the_first.Goals as goal

pub returns : goal.returns
unfolding path_file_name split_last_component rsplit_once trim_trailing
returns c = record {
  misses_a_letter = refl;
  misses_a_part = refl;
  misses_a_low_line = refl;
  none = refl;
  a_root = refl;
}
