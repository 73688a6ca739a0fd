use Rattle.std.specs.Prelude.{refl}
use Rattle.clap.specs.Takes.{flags_pass, walk_passes}
use Rattle.clap.specs.Walk.{bundle_met, walked}
use Rattle.aprs_arguments.proofs.examples.commands_take_inputs.Goals as goal

pub returns : goal.returns
unfolding flags_pass walk_passes bundle_met walked
returns c = record {
  none = refl;
  one = refl;
  misses_two = refl;
  two = refl;
}
