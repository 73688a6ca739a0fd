-- How many rows a book has.
use Rattle.aprs_rows.proofs.Common.{◌≡◌, ℕ, ◌+◌, ◌<◌, ◌≤◌, List, [], ◌∷◌, length, arith, ap, refl, Ordering, Less, Equal, Greater, Row, choose, combine, compare_near}
use Rattle.std.proofs.lemmas.List.Sums.{sum_by-cons}
use Rattle.aprs_transmissions.specs.JoinRow.{join_row, merge}
use Rattle.aprs_transmissions.specs.Together.{book_together}
use Rattle.aprs_rows.specs.Packed.{room_of, row_room}

abbrev OneMore : List Row → List Row → Type 0
OneMore p rows = (0 < length rows) × (length rows ≤ length p + 1)

-- a row that joins others makes one more of them at most, and not none
joined_len : (gap : ℕ) (p : List Row) (x : Row) → OneMore p (join_row gap p x)
joined_len gap [] x = (omega arith, omega arith)
joined_len gap (y ∷ p) x =
    by_place (compare_near gap y x) (joined_len gap p x) (joined_len gap p (combine y x)) where
      by_place : (o : Ordering) → OneMore p (join_row gap p x)
          → OneMore p (join_row gap p (combine y x))
          → OneMore (y ∷ p)
          (choose o (y ∷ join_row gap p x) (join_row gap p (combine y x)) (x ∷ y ∷ p))
      by_place Less l m = (omega arith, omega (arith, l.1))
      by_place Equal l m = (m.0, omega (arith, m.1))
      by_place Greater l m = (omega arith, omega arith)

merged_len : (gap : ℕ) (p rows : List Row) → length (merge gap p rows) ≤ length p + length rows
merged_len gap p [] = omega arith
merged_len gap p (x ∷ rows) =
    omega (arith, (joined_len gap p x).1, merged_len gap (join_row gap p x) rows)

merged_some : (gap : ℕ) (p rows : List Row) → 0 < length p → 0 < length (merge gap p rows)
merged_some gap p [] h = h
merged_some gap p (x ∷ rows) h = merged_some gap (join_row gap p x) rows (joined_len gap p x).0

-- where there are rows, their book has rows
pub some_book : (gap : ℕ) (rows : List Row) → (rows ≡ [] → ⊥) → book_together gap rows ≡ [] → ⊥
some_book gap [] some e = some refl
some_book gap (x ∷ rows) some e =
    let none = ap length e in
    omega (arith, none, merged_some gap (x ∷ []) rows (omega arith))

-- it has no more rows than the names of these have bytes
pub book_fits : (gap : ℕ) (rows : List Row) → length (book_together gap rows) ≤ room_of rows
book_fits gap rows = omega (arith, merged_len gap [] rows, few rows) where
  few : (rs : List Row) → length rs ≤ room_of rs
  few [] = omega arith
  few (x ∷ rs) = omega (arith, few rs, sum_by-cons row_room x rs)
