use Rattle.aprs_transmissions.proofs.Common.{◌≡◌, ℕ, List, [], ◌∷◌, ap, arith}
use Rattle.aprs_transmissions.specs.Key.{key_of, key_cmp}
use Rattle.aprs_transmissions.specs.Row.{Row}
use Rattle.aprs_transmissions.proofs.examples.steps.rows_have_one_book_in_any_order.Goals as goal

-- the first moment of the first row
abbrev first_of : List Row → ℕ
first_of [] = 0
first_of (x ∷ xs) = x.first

pub returns-clause-misses_their_order : goal.returns-clause-misses_their_order
unfolding key_of key_cmp
returns-clause-misses_their_order c = λ e.
    let n : 0 ≡ 30001 = ap (λ (rows : List Row). first_of rows) e in
    omega (arith, n)
