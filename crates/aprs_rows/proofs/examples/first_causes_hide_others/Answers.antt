use Rattle.aprs_rows.proofs.Common.{refl}
use Rattle.aprs_transmissions.specs.Key.{key_of, key_cmp}
use Rattle.aprs_rows.specs.Refusal.{refusal}
use Rattle.aprs_rows.proofs.examples.first_causes_hide_others.Goals as goal

pub returns : goal.returns
unfolding key_of key_cmp refusal
returns c = record {
  order_span = refl;
  order_near = refl;
  order_receivers = refl;
  order_not_greatest = refl;
  span_near = refl;
  span_receivers = refl;
  near_receivers = refl;
  near_not_greatest = refl;
  receivers_not_greatest = refl;
}
