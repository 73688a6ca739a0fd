-- A fold of the rows of several books, while it goes on.
use Rattle.std.specs.Prelude.{◌≡◌, ◌⊎◌, ℕ, Bool, true, false, List, [], ◌∷◌, ◌++◌}
use Rattle.std.specs.Ordering.{is_eq}
use Rattle.aprs_transmissions.specs.Coalescing.{AreInOrder}
use Rattle.aprs_transmissions.specs.JoinRow.{combine, compare_near}
use Rattle.aprs_transmissions.specs.Lists.{◌∈◌, SameMembers}
use Rattle.aprs_transmissions.specs.Order.{IsUpTo}
use Rattle.aprs_transmissions.specs.Row.{Row, row_cmp}
use Rattle.aprs_transmissions.specs.Sound.{IsSoundRow, AreSoundRows}
use Rattle.aprs_transmissions.specs.Together.{book_together}
use Rattle.aprs_fold.specs.Folded.{IsFolded}

-- ---- one step

-- The rows that are written where the next one is taken, by whether it closes the last one.
abbrev pub rows_put : Bool → List Row → List Row
rows_put true last = last
rows_put false last = []

-- The next row is taken. At `true` it is far from the last one, which is written, and takes its
-- place. At `false` nothing is written: the next joins the last one, or there was no last one.
abbrev pub TakesNext : Bool → ℕ → List Row → Row → List Row → Type 0
TakesNext true gap last next new =
    (own : Row) × (last ≡ own ∷ []) × (is_eq (compare_near gap own next) ≡ false)
    × (new ≡ next ∷ [])
TakesNext false gap last next new =
    ((own : Row) × (last ≡ own ∷ []) × (is_eq (compare_near gap own next) ≡ true)
    × (new ≡ combine own next ∷ []))
    ⊎ ((last ≡ []) × (new ≡ next ∷ []))

-- ---- the fold

-- None of the rows comes before x.
abbrev pub NoneIsBefore : Row → List Row → Type 0
NoneIsBefore x rows = (y : Row) → y ∈ rows → IsUpTo row_cmp x y

-- The rows `read` were taken in the order of `taken`, each sound by itself, and none in front comes
-- before any of them. Of their book `written` is final, and `last` may still be joined.
pub record IsFolding (gap : ℕ) (read front written last : List Row) : Type 0 where
  pub taken : List Row
  pub members : SameMembers read taken
  pub ordered : AreInOrder taken
  pub each : AreSoundRows taken
  pub ahead : (x : Row) → x ∈ taken → NoneIsBefore x front
  pub folded : IsFolded gap taken written last

-- ---- laws

-- Before the first row a fold has taken no rows, nothing is final, and there is no last row.
abbrev pub Begins : ℕ → Type 0
Begins gap = (front : List Row) → IsFolding gap [] front [] []

-- A fold goes on by one step: a row in front is taken, and none of the rows that are in front after
-- it comes before this row. After that it is a fold of this row too, with what is written and the
-- last row as `TakesNext` says.
abbrev pub TakesOn : ℕ → Type 0
TakesOn gap = (read front written last : List Row) (x : Row) (wrote : Bool)
    (all ahead new : List Row) → IsFolding gap read front written last → x ∈ front → IsSoundRow x
    → SameMembers all (x ∷ read) → NoneIsBefore x ahead → TakesNext wrote gap last x new
    → IsFolding gap all ahead (written ++ rows_put wrote last) new

-- What is written and the last one are the book of the rows that were taken.
abbrev pub EndsAsBook : ℕ → Type 0
EndsAsBook gap = (read front written last : List Row) → IsFolding gap read front written last
    → written ++ last ≡ book_together gap read

-- More rows still come in order, each after some row in front or level with it. Whatever they are,
-- what is written begins the book of all rows.
abbrev pub BeginsBook : ℕ → Type 0
BeginsBook gap = (read front written last more : List Row) → IsFolding gap read front written last
    → AreInOrder more → AreSoundRows more
    → ((y : Row) → y ∈ more → (x : Row) × (x ∈ front) × IsUpTo row_cmp x y)
    → (rest : List Row) × (book_together gap (read ++ more) ≡ written ++ rest)
