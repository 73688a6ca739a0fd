use Rattle.aprs_transmissions.proofs.Common.{◌≡◌, List, [], ◌∷◌, ◌++◌, ap, length, arith}
use Rattle.aprs_transmissions.specs.Row.{Row}
use Rattle.aprs_transmissions.specs.Witnesses.{witnesses}
use Rattle.aprs_transmissions.specs.Examples.{early_row, late_row, close_row, near_row}
use Rattle.aprs_transmissions.proofs.Books.{one_book}
use Rattle.aprs_transmissions.proofs.Worked.{joined_near, joined_far}
use Rattle.aprs_transmissions.proofs.examples.joins.joined_books_are_books.Goals as goal

pub returns-clause-joined : goal.returns-clause-joined
returns-clause-joined c = joined_near

pub returns-clause-misses_side_by_side : goal.returns-clause-misses_side_by_side
returns-clause-misses_side_by_side c = λ j. let n : 2 ≡ 1 =
    ap (λ (rows : List Row). length rows)
    (one_book 30000 (witnesses (early_row ∷ []) ++ witnesses (close_row ∷ []))
    (early_row ∷ close_row ∷ []) (near_row ∷ []) j joined_near) in omega (arith, n)

pub returns-clause-misses_one_book : goal.returns-clause-misses_one_book
returns-clause-misses_one_book c = λ j. let n : 1 ≡ 2 =
    ap (λ (rows : List Row). length rows)
    (one_book 30000 (witnesses (early_row ∷ []) ++ witnesses (late_row ∷ [])) (early_row ∷ [])
    (early_row ∷ late_row ∷ []) j joined_far) in omega (arith, n)
