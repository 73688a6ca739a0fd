use Rattle.aprs_rows.proofs.Common.{refl}
use Rattle.aprs_transmissions.specs.Key.{key_of, key_cmp}
use Rattle.aprs_rows.specs.Refusal.{refusal}
use Rattle.aprs_rows.proofs.examples.rows_are_refused_for_a_cause.Goals as goal

pub returns : goal.returns
unfolding key_of key_cmp refusal
returns c = record {
  order = refl;
  follows = refl;
  span = refl;
  at_once = refl;
  near = refl;
  far = refl;
  unlisted = refl;
  descending = refl;
  twice = refl;
  lesser = refl;
  listed = refl;
}
