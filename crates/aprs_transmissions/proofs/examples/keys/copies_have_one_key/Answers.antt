use Rattle.aprs_transmissions.proofs.Common.{◌≡◌, ap, arith, rules}
use Rattle.aprs_transmissions.specs.Key.{Key, key_of}
use Rattle.aprs_transmissions.proofs.Worked.{key_direct, key_repeated, key_answered}
use Rattle.aprs_transmissions.proofs.examples.keys.copies_have_one_key.Goals as goal

pub returns : goal.returns
unfolding key_of
returns c = record {
  direct = key_direct;
  repeated = key_repeated;
  as_response = key_answered;
  misses_other_ssid = λ e. let n : 8 ≡ 7 = ap (λ (k : Key). k.source.ssid) e in
      omega (arith, n);
  misses_bytes = search rules;
}
