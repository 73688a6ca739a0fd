use Rattle.aprs_transmissions.proofs.Common.{[], ◌∷◌, inl, refl, subst, arith}
use Rattle.aprs_transmissions.specs.Key.{Key}
use Rattle.aprs_transmissions.specs.Run.{Run}
use Rattle.aprs_transmissions.specs.Examples.{rx1, hi_frame, reception_at, near_pair, near_row}
use Rattle.aprs_transmissions.proofs.RunRows.{one_row_each}
use Rattle.aprs_transmissions.proofs.Worked.{key_direct, near_book}
use Rattle.aprs_transmissions.proofs.examples.runs.runs_are_maximal.Goals as goal

pub returns-clause-heard : goal.returns-clause-heard
returns-clause-heard c = (reception_at 30001 rx1 hi_frame, inl refl, key_direct, refl)

pub returns-clause-run : goal.returns-clause-run
returns-clause-run c = subst (λ (k : Key). Run 30000 near_pair k 0 30000) key_direct
    ((one_row_each 30000 near_pair (near_row ∷ []) near_book).run near_row (inl refl))

pub returns-clause-misses_part : goal.returns-clause-misses_part
returns-clause-misses_part c = λ r. r.none_after 30000 (omega arith) (omega arith)
    (reception_at 30000 rx1 hi_frame, inl refl, key_direct, refl)
