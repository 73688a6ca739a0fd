-- Lines that are kept beside rows.
use Rattle.aprs_bookfile.proofs.Common.{◌≡◌, ◌<◌, List, ℕ, length, Some, inl, inr, ap, arith, sym, ◌∙◌, Row, Millis}
use Rattle.aprs_bookfile.specs.KeptLine.{IsKeptLine}
use Rattle.aprs_bookfile.specs.Text.{row_line}

-- a line that isn't empty is kept, and is that of the row
pub line_kept : (line : List ℕ) (x : Row) → IsKeptLine line (Some x) → 0 < length line
    → line ≡ row_line Millis x
line_kept line x h some = elim h [
  | inl none ↦ absurd (let e : length line ≡ 0 = ap length none in omega (arith, some, e))
  | inr own ↦
      let same : Some own.0 ≡ Some x = sym own.1 in
      let row : own.0 ≡ x = cc in
      own.2 ∙ ap (row_line Millis) row
]
