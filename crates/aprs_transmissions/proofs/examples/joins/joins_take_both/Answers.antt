use Rattle.aprs_transmissions.proofs.Common.{◌≡◌, inl, refl, ap, arith, Received}
use Rattle.aprs_transmissions.specs.Examples.{rx1, rx2, hi_frame, hi_after_digipeater, reception_at}
use Rattle.aprs_transmissions.proofs.examples.joins.joins_take_both.Goals as goal

pub returns-clause-misses_repeat : goal.returns-clause-misses_repeat
returns-clause-misses_repeat c = λ u. let h = u.ascending.0 rx1 (inl refl) in cc h

pub returns-clause-misses_first : goal.returns-clause-misses_first
returns-clause-misses_first c = λ laws. let e =
    laws.commutative (reception_at 30001 rx1 hi_frame) (reception_at 0 rx2 hi_after_digipeater)
    (reception_at 30001 rx1 hi_frame) refl in let n : 30001 ≡ 0 = ap (λ (s : Received). s.moment) e in
    omega (arith, n)
