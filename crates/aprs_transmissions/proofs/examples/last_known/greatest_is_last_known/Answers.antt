use Rattle.aprs_transmissions.proofs.Common.{inl, refl}
use Rattle.aprs_transmissions.specs.Examples.{rx1, hi_frame, reception_at}
use Rattle.aprs_transmissions.proofs.examples.last_known.greatest_is_last_known.Goals as goal

pub returns-clause-misses_last : goal.returns-clause-misses_last
returns-clause-misses_last c = λ b. let h = b.greatest (reception_at 30001 rx1 hi_frame) (inl refl) refl in
    cc h

pub returns-clause-misses_none : goal.returns-clause-misses_none
returns-clause-misses_none c = λ f. f (reception_at 30001 rx1 hi_frame) (inl refl) refl
