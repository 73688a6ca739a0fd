-- Rows that the worked examples are about.
use Rattle.std.specs.Prelude.{[], ◌∷◌}
use Rattle.aprs_transmissions.specs.Row.{Row}
use Rattle.aprs_transmissions.specs.Examples.{rx1, rx2, of_other, reception_at, by_rx1, example_row}

-- A row of N0CALL-8, which comes after all of N0CALL-7.
abbrev pub eighth_row : Row
eighth_row = example_row 0 (rx1 ∷ []) (reception_at 0 rx1 of_other)

-- A row of two milliseconds whose greatest reception is by a receiver that it doesn't list.
abbrev pub unlisted_row : Row
unlisted_row = example_row 1 (rx2 ∷ []) (by_rx1 2)

-- A row of one moment whose greatest reception isn't by the last receiver.
abbrev pub lesser_row : Row
lesser_row = example_row 1 (rx1 ∷ rx2 ∷ []) (by_rx1 1)
