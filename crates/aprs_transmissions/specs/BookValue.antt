-- A book with its gap.
use Rattle.std.specs.Prelude.{◌≡◌, ℕ, ◌≤◌, List, ◌++◌, ◌↔◌}
use Rattle.aprs_log.specs.Reception.{Received}
use Rattle.aprs_transmissions.specs.Gap.{IsGap, millis_of}
use Rattle.aprs_transmissions.specs.Row.{Row}
use Rattle.aprs_transmissions.specs.Book.{BookOf}
use Rattle.aprs_transmissions.specs.Sound.{Sound}
use Rattle.aprs_transmissions.specs.Joining.{Joined}
use Rattle.aprs_transmissions.specs.Widening.{widened_rows}

-- The gap in seconds, and the rows.
pub record BookValue : Type 0 where
  pub gap : ℕ
  pub rows : List Row

-- The rows are the book of S under the gap.
abbrev pub Holds : List Received → BookValue → Type 0
Holds S b = BookOf (millis_of b.gap) S b.rows

-- A book that some set has: its gap is one that books have, and its rows are sound under it.
pub record IsSoundBook (b : BookValue) : Type 0 where
  pub range : IsGap b.gap
  pub sound : Sound (millis_of b.gap) b.rows

-- Both books have the same gap.
abbrev pub HaveOneGap : BookValue → BookValue → Type 0
HaveOneGap a b = a.gap ≡ b.gap

-- Under their one gap, c is the joined book.
pub record AreJoined (a b c : BookValue) : Type 0 where
  pub left : a.gap ≡ c.gap
  pub right : b.gap ≡ c.gap
  pub range : IsGap c.gap
  pub rows : Joined (millis_of c.gap) a.rows b.rows c.rows

-- The book under another gap, which is not less.
abbrev pub widened_to : ℕ → BookValue → BookValue
widened_to gap b = record { gap = gap; rows = widened_rows (millis_of gap) b.rows }

-- Books of one gap: the union of what two hold has their joined book.
abbrev pub UnionHasJoinedBook : Type 0
UnionHasJoinedBook =
    (S T : List Received) (a b c : BookValue) → IsGap c.gap → a.gap ≡ c.gap → b.gap ≡ c.gap
    → Holds S a → Holds T b → Holds (S ++ T) c ↔ AreJoined a b c

-- A book that is widened holds the same set.
abbrev pub WidenedHolds : Type 0
WidenedHolds =
    (gap : ℕ) (S : List Received) (b : BookValue) → b.gap ≤ gap → Holds S b
    → Holds S (widened_to gap b)

-- The widened join of two books is the join of the widened books.
abbrev pub WidensJoinedBooks : Type 0
WidensJoinedBooks =
    (gap : ℕ) (a b c : BookValue) → IsGap gap → c.gap ≤ gap → IsSoundBook a → IsSoundBook b
    → AreJoined a b c → AreJoined (widened_to gap a) (widened_to gap b) (widened_to gap c)
