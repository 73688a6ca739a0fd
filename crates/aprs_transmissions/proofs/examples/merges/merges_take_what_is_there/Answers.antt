use Rattle.aprs_transmissions.proofs.Common.{inl, inr, refl, arith}
use Rattle.aprs_transmissions.specs.Taken.{Take}
use Rattle.aprs_transmissions.specs.Examples.{rx2, hi_frame, reception_at}
use Rattle.aprs_transmissions.proofs.examples.merges.merges_take_what_is_there.Goals as goal

pub returns-clause-misses_place : goal.returns-clause-misses_place
returns-clause-misses_place c =
    λ f. let h = f (Take 1 (reception_at 20 rx2 hi_frame)) (inr (inl refl)) in omega (arith, h)
