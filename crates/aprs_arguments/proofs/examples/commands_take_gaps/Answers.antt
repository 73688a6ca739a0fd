use Rattle.std.specs.Prelude.{refl}
use Rattle.clap.specs.Takes.{flags_pass, walk_passes}
use Rattle.clap.specs.Walk.{bundle_met, walked}
use Rattle.aprs_arguments.proofs.examples.commands_take_gaps.Goals as goal

pub returns : goal.returns
unfolding flags_pass walk_passes bundle_met walked
returns c = record {
  least = refl;
  greatest = refl;
  misses_nought = refl;
  misses_more = refl;
  misses_none = refl;
}
