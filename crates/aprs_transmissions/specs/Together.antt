-- The book that rows are together, and how its rows come one after another.
use Rattle.std.specs.Prelude.{◌≡◌, false, ℕ, List, [], ◌∷◌, ◌++◌}
use Rattle.std.specs.Ordering.{is_eq}
use Rattle.std.specs.declared.cmp.Ordering.TheVariants.{Equal}
use Rattle.aprs_transmissions.specs.Lists.{◌∈◌, SameMembers}
use Rattle.aprs_transmissions.specs.Order.{IsUpTo}
use Rattle.aprs_transmissions.specs.Row.{Row, row_cmp}
use Rattle.aprs_transmissions.specs.Sound.{IsSoundRow, AreSoundRows, Sound}
use Rattle.aprs_transmissions.specs.JoinRow.{combine, compare_near, merge}

-- The book that rows are together, whatever their order.
abbrev pub book_together : ℕ → List Row → List Row
book_together gap rows = merge gap [] rows

-- The book of rows that are each sound by itself is sound.
abbrev pub BookIsSound : ℕ → Type 0
BookIsSound gap = (rows : List Row) → AreSoundRows rows → Sound gap (book_together gap rows)

-- In another order, or with repeats, rows that are each sound by itself have the same book.
abbrev pub OrderIsFree : ℕ → Type 0
OrderIsFree gap =
    (p q : List Row) → AreSoundRows p → SameMembers p q
    → book_together gap p ≡ book_together gap q

-- More rows join the book of those before them.
abbrev pub MoreJoin : ℕ → Type 0
MoreJoin gap =
    (rows more : List Row)
    → book_together gap (rows ++ more) ≡ merge gap (book_together gap rows) more

-- Where the first two of some rows are near, they can be joined first: the book is the same.
abbrev pub FirstsJoin : ℕ → Type 0
FirstsJoin gap =
    (first next : Row) (rest : List Row) → compare_near gap first next ≡ Equal
    → book_together gap (first ∷ next ∷ rest) ≡ book_together gap (combine first next ∷ rest)

-- Two near rows that are sound by themselves are one sound row.
abbrev pub NearIsSound : ℕ → Type 0
NearIsSound gap =
    (x y : Row) → IsSoundRow x → IsSoundRow y → compare_near gap x y ≡ Equal
    → IsSoundRow (combine x y)

-- The first two rows are not near, the second is sound, and neither comes after a row behind it.
-- Then the first is the book's first row, and the others are the book of the rows behind it.
abbrev pub FirstStands : ℕ → Type 0
FirstStands gap =
    (first next : Row) (rest : List Row) → IsSoundRow next → IsUpTo row_cmp first next
    → ((y : Row) → y ∈ rest → IsUpTo row_cmp next y) → is_eq (compare_near gap first next) ≡ false
    → book_together gap (first ∷ next ∷ rest) ≡ first ∷ book_together gap (next ∷ rest)
