-- What holds of the step that books are made with.
use Rattle.std.specs.Prelude.{◌≡◌, ℕ, ◌==◌, if◌then◌else◌, List, [], ◌∷◌, ◌++◌, ◌⊎◌, ◌↔◌, true}
use Rattle.aprs_log.specs.Reception.{Received}
use Rattle.aprs_transmissions.specs.Lists.{◌∈◌, SameMembers}
use Rattle.aprs_transmissions.specs.Row.{Row}
use Rattle.aprs_transmissions.specs.Book.{BookOf}
use Rattle.aprs_transmissions.specs.Sound.{IsSoundRow, Sound, IsNext}
use Rattle.aprs_transmissions.specs.Joining.{Joined}
use Rattle.aprs_transmissions.specs.Taken.{Step, Take, Merge, sets_after}
use Rattle.aprs_transmissions.specs.Inserted.{insert_heard, FitsInPlace, has_place_for}
use Rattle.aprs_transmissions.specs.JoinRow.{single, IsNear, join_row, merge, plain_book}

-- Receptions that join one after another give their book.
abbrev pub PlainBookIsBook : ℕ → Type 0
PlainBookIsBook gap = (S : List Received) → BookOf gap S (plain_book gap S)

-- A book of a set, after one more reception joined it, is the book of the set with that reception.
abbrev pub TakesReception : ℕ → Type 0
TakesReception gap =
    (S : List Received) (s : Received) (p : List Row) → BookOf gap S p
    → BookOf gap (S ++ s ∷ []) (join_row gap p (single s))

-- A book into which code inserts one more reception is the book of the set with it.
abbrev pub InsertsReception : ℕ → Type 0
InsertsReception gap =
    (S : List Received) (s : Received) (p : List Row) → BookOf gap S p
    → BookOf gap (S ++ s ∷ []) (insert_heard gap s p)

-- What fits in place passes the test of that.
abbrev pub FitsByTest : ℕ → Type 0
FitsByTest gap =
    (s : Received) (p : List Row) → Sound gap p → FitsInPlace gap p s → has_place_for gap s p ≡ true

-- Sound rows stay sound with exactly those rows after them that may follow.
abbrev pub OnlyNextFollows : ℕ → Type 0
OnlyNextFollows gap =
    (p : List Row) (x : Row) → Sound gap p → Sound gap (p ++ x ∷ []) ↔ IsNext gap p x

-- A row that is sound by itself and joins sound rows gives the joined rows of both.
abbrev pub TakesRow : ℕ → Type 0
TakesRow gap =
    (p : List Row) (r : Row) → Sound gap p → IsSoundRow r → Joined gap p (r ∷ []) (join_row gap p r)

-- The rows of another book, taken one after another, give the book of the union.
abbrev pub TakesRows : ℕ → Type 0
TakesRows gap =
    (S T : List Received) (p q : List Row) → BookOf gap S p → BookOf gap T q
    → BookOf gap (S ++ T) (merge gap p q)

-- Of three rows of one book to which one reception is near, two are the same row.
abbrev pub AtMostTwoAreNear : ℕ → Type 0
AtMostTwoAreNear gap =
    (p : List Row) (s : Received) (x y z : Row) → Sound gap p → x ∈ p → y ∈ p → z ∈ p
    → IsNear gap x (single s) → IsNear gap y (single s) → IsNear gap z (single s)
    → (x ≡ y) ⊎ (y ≡ z) ⊎ (x ≡ z)

-- The rows at all places after one more step.
abbrev pub rows_after_step : ℕ → Step → (ℕ → List Row) → ℕ → List Row
rows_after_step gap (Take i x) rows k = if k == i then join_row gap (rows k) (single x) else rows k
rows_after_step gap (Merge i j) rows k = if k == i then merge gap (rows k) (rows j) else rows k

-- The rows at all places after these steps.
abbrev pub rows_after_steps : ℕ → List Step → (ℕ → List Row) → ℕ → List Row
rows_after_steps gap [] rows = rows
rows_after_steps gap (step ∷ steps) rows =
    rows_after_steps gap steps (rows_after_step gap step rows)

-- The steps on rows give the books of the sets that the steps take.
abbrev pub StepsGiveBooks : ℕ → Type 0
StepsGiveBooks gap =
    (steps : List Step) (i : ℕ)
    → BookOf gap (sets_after steps i) (rows_after_steps gap steps (λ k. []) i)

-- Places that took the same receptions, in any order, with any repeats and merges, have equal rows.
abbrev pub SameTakenSameRows : ℕ → Type 0
SameTakenSameRows gap =
    (steps others : List Step) (i j : ℕ) → SameMembers (sets_after steps i) (sets_after others j)
    → rows_after_steps gap steps (λ k. []) i ≡ rows_after_steps gap others (λ k. []) j
