-- A book in a store: rows in sorted lists, and rows that aren't sorted. No public clause cites this
-- module.
use Rattle.std.specs.Prelude.{ℕ, List, ◌++◌}
use Rattle.std.specs.List.{flat_map, AllByRecursion}
use Rattle.aprs_transmissions.specs.BookValue.{BookValue}
use Rattle.aprs_transmissions.specs.Coalescing.{AreInOrder}
use Rattle.aprs_transmissions.specs.Gap.{IsGap, millis_of}
use Rattle.aprs_transmissions.specs.Row.{Row}
use Rattle.aprs_transmissions.specs.Sound.{AreSoundRows}
use Rattle.aprs_transmissions.specs.Together.{book_together}

-- All rows: those of the chunk, then those of the lists.
abbrev pub all_rows : List (List Row) → List Row → List Row
all_rows lists chunk = chunk ++ flat_map (λ rows. rows) lists

-- Their book under this gap in seconds.
abbrev pub book_stored : ℕ → List (List Row) → List Row → BookValue
book_stored gap lists chunk =
    record { gap = gap; rows = book_together (millis_of gap) (all_rows lists chunk) }

-- The gap is one that a book can have, the lists are in order, and each row is sound by itself.
pub record IsStored (gap : ℕ) (lists : List (List Row)) (chunk : List Row) : Type 0 where
  pub range : IsGap gap
  pub ordered : AllByRecursion AreInOrder lists
  pub each : AreSoundRows (all_rows lists chunk)
