-- Rows that are still to come in a book. No public clause cites this module.
use Rattle.std.specs.Prelude.{◌≡◌, ℕ, ◌≤◌, List, [], ◌∷◌}
use Rattle.aprs_log.specs.Reception.{bytes_cmp}
use Rattle.aprs_transmissions.specs.Gap.{IsGap}
use Rattle.aprs_transmissions.specs.JoinRow.{union}
use Rattle.aprs_transmissions.specs.Lists.{◌∈◌}
use Rattle.aprs_transmissions.specs.Order.{IsUpTo}
use Rattle.aprs_transmissions.specs.Row.{Row, row_cmp}
use Rattle.aprs_transmissions.specs.Sound.{AreSoundRows}
use Rattle.aprs_transmissions.specs.Together.{book_together}
use Rattle.aprs_rows.specs.Merger.{with_names}
use Rattle.aprs_rows.specs.NameRoom.{GatheredNames}
use Rattle.aprs_rows.specs.Packed.{room_of}

-- A gap in its range, and rows that are sound each by itself. Their names fit in the room, where
-- no name is yet.
pub record AreToCome (gap : ℕ) (rows : List Row) (names : GatheredNames) : Type 0 where
  pub range : IsGap gap
  pub each : AreSoundRows rows
  pub none : names.names ≡ []
  pub fits : room_of rows ≤ names.left

-- A row is open: it has this first moment, this greatest reception and the names that were
-- gathered. It comes after none of the rows, and is with them this book. Each of these rows is
-- sound by itself.
pub record IsOpen (gap first : ℕ) (greatest : Row) (names : List (List ℕ)) (rows book : List Row)
    : Type 0 where
  pub each : AreSoundRows (with_names first greatest (union bytes_cmp names []) ∷ rows)
  pub least : (y : Row) → y ∈ rows
      → IsUpTo row_cmp (with_names first greatest (union bytes_cmp names [])) y
  pub book_is : book_together gap (with_names first greatest (union bytes_cmp names []) ∷ rows)
      ≡ book
