-- Rows that were taken in order: those of the book that no later row joins, and the last one, which
-- later rows may still join.
use Rattle.std.specs.Prelude.{◌≡◌, ℕ, List, [], ◌∷◌, ◌++◌, true, false}
use Rattle.std.specs.Ordering.{is_eq}
use Rattle.aprs_transmissions.specs.Coalescing.{AreInOrder}
use Rattle.aprs_transmissions.specs.JoinRow.{choose, combine, compare_near}
use Rattle.aprs_transmissions.specs.Row.{Row}
use Rattle.aprs_transmissions.specs.Sound.{AreSoundRows}
use Rattle.aprs_transmissions.specs.Together.{book_together}

-- After l and the rows that follow it, in order: the row that a later one may still join.
abbrev pub row_after : ℕ → Row → List Row → Row
row_after gap l [] = l
row_after gap l (x ∷ xs) =
    choose (compare_near gap l x) (row_after gap x xs) (row_after gap (combine l x) xs)
    (row_after gap x xs)

-- The book's rows before `row_after`, which no later row joins.
abbrev pub rows_before : ℕ → Row → List Row → List Row
rows_before gap l [] = []
rows_before gap l (x ∷ xs) =
    choose (compare_near gap l x) (l ∷ rows_before gap x xs) (rows_before gap (combine l x) xs)
    (l ∷ rows_before gap x xs)

-- The rows that were taken are folded so: `written` are before the last one, and `last` has that
-- one, or none where none were taken.
abbrev pub IsFolded : ℕ → List Row → List Row → List Row → Type 0
IsFolded gap [] written last = (written ≡ []) × (last ≡ [])
IsFolded gap (l ∷ xs) written last =
    (written ≡ rows_before gap l xs) × (last ≡ row_after gap l xs ∷ [])

-- ---- laws

-- The first row is the last one, and none is before it.
abbrev pub FirstIsLast : ℕ → Type 0
FirstIsLast gap = (x : Row) → IsFolded gap (x ∷ []) [] (x ∷ [])

-- The next row joins the last one where it is near.
abbrev pub NearJoins : ℕ → Type 0
NearJoins gap = (taken written : List Row) (last x : Row) → IsFolded gap taken written (last ∷ [])
    → is_eq (compare_near gap last x) ≡ true
    → IsFolded gap (taken ++ x ∷ []) written (combine last x ∷ [])

-- Where the next row isn't near, the last one is written, and the next is in its place.
abbrev pub FarCloses : ℕ → Type 0
FarCloses gap = (taken written : List Row) (last x : Row) → IsFolded gap taken written (last ∷ [])
    → is_eq (compare_near gap last x) ≡ false
    → IsFolded gap (taken ++ x ∷ []) (written ++ last ∷ []) (x ∷ [])

-- What is written and the last one are the book of the rows that were taken.
abbrev pub FoldedIsBook : ℕ → Type 0
FoldedIsBook gap = (taken written last : List Row) → AreInOrder taken → AreSoundRows taken
    → IsFolded gap taken written last → written ++ last ≡ book_together gap taken

-- What is written stays: whatever rows come after in order, it begins the book of all rows.
abbrev pub WrittenStays : ℕ → Type 0
WrittenStays gap = (taken written last more : List Row) → AreInOrder (taken ++ more)
    → AreSoundRows (taken ++ more) → IsFolded gap taken written last
    → (rest : List Row) × (book_together gap (taken ++ more) ≡ written ++ rest)
