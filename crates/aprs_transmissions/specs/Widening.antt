-- Books under another gap.
use Rattle.std.specs.Prelude.{◌≡◌, ℕ, ◌<◌, ◌≤◌, List}
use Rattle.aprs_log.specs.Reception.{Received}
use Rattle.aprs_transmissions.specs.Row.{Row}
use Rattle.aprs_transmissions.specs.Book.{BookOf}
use Rattle.aprs_transmissions.specs.Sound.{Sound}
use Rattle.aprs_transmissions.specs.Joining.{Joined}
use Rattle.aprs_transmissions.specs.JoinRow.{coalesced_rows}

-- Rows of a book under a gap that is not less: each joins the one before it that it is near to.
abbrev pub widened_rows : ℕ → List Row → List Row
widened_rows gap rows = coalesced_rows gap rows

-- The widened rows of a set's book are the book of the same set under the other gap.
abbrev pub WidensBook : Type 0
WidensBook =
    (narrow wide : ℕ) (S : List Received) (rows : List Row) → narrow ≤ wide → BookOf narrow S rows
    → BookOf wide S (widened_rows wide rows)

-- Sound rows are sound under the other gap too, once they are widened.
abbrev pub WidenedIsSound : Type 0
WidenedIsSound =
    (narrow wide : ℕ) (rows : List Row) → 0 < narrow → narrow ≤ wide → Sound narrow rows
    → Sound wide (widened_rows wide rows)

-- Widening under an equal gap changes nothing.
abbrev pub KeepsUnderOwnGap : ℕ → Type 0
KeepsUnderOwnGap gap = (rows : List Row) → 0 < gap → Sound gap rows → widened_rows gap rows ≡ rows

-- Widening in two steps gives what widening in one does.
abbrev pub WidensInSteps : Type 0
WidensInSteps =
    (narrow middle wide : ℕ) (rows : List Row) → 0 < narrow → narrow ≤ middle → middle ≤ wide
    → Sound narrow rows → widened_rows wide (widened_rows middle rows) ≡ widened_rows wide rows

-- What is widened and then joined is what is joined and then widened.
abbrev pub WidensJoined : Type 0
WidensJoined =
    (narrow wide : ℕ) (a b c : List Row) → 0 < narrow → narrow ≤ wide → Sound narrow a
    → Sound narrow b → Joined narrow a b c
    → Joined wide (widened_rows wide a) (widened_rows wide b) (widened_rows wide c)

-- Under a lesser gap, rows do not decide the book: no function of rows gives it for each set.
abbrev pub NarrowsNot : Type 0
NarrowsNot =
    (narrow wide : ℕ) (narrowed : List Row → List Row) → 0 < narrow → narrow < wide
    → ((S : List Received) (rows : List Row) → BookOf wide S rows → BookOf narrow S (narrowed rows))
    → ⊥
