use Rattle.aprs_transmissions.proofs.Common.{◌≡◌, ap, arith}
use Rattle.aprs_transmissions.specs.Key.{Key, key_of}
use Rattle.aprs_transmissions.proofs.examples.keys.destinations_have_ssids.Goals as goal

pub returns-clause-misses_other_ssid : goal.returns-clause-misses_other_ssid
unfolding key_of
returns-clause-misses_other_ssid c = λ e. let n : 1 ≡ 2 = ap (λ (k : Key). k.destination.ssid) e in
    omega (arith, n)
