use Rattle.aprs_rows.proofs.Common.{◌≡◌, true, false, refl}
use Rattle.aprs_transmissions.specs.Key.{key_of, key_cmp}
use Rattle.aprs_rows.proofs.examples.ended_lists_come_last.Goals as goal

pub returns-clause-earlier : goal.returns-clause-earlier
unfolding key_of key_cmp
returns-clause-earlier c = refl

pub returns-clause-misses_later : goal.returns-clause-misses_later
unfolding key_of key_cmp
returns-clause-misses_later c h = let f : true ≡ false = h in cc
