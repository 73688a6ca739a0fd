use Rattle.aprs_host.proofs.Common.{refl}
use Rattle.std.specs.Path.{path_file_name, rsplit_once, split_last_component, trim_trailing}
use Rattle.aprs_host.proofs.examples.names_stand_last.Goals as goal

pub returns : goal.returns
unfolding path_file_name split_last_component rsplit_once trim_trailing
returns c = record {
  alone = refl;
  after_a_slash = refl;
  after_two = refl;
  its_own = refl;
  misses_a_folder = refl;
}
