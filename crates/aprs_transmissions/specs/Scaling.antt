-- Books in another unit of time.
use Rattle.std.specs.Prelude.{ℕ, ◌*◌, ◌<◌, List, map, ◌↔◌}
use Rattle.aprs_log.specs.Reception.{Received}
use Rattle.aprs_transmissions.specs.Row.{Row}
use Rattle.aprs_transmissions.specs.Book.{BookOf}

-- The reception with its moment in a finer unit: a unit of before is `factor` of these.
abbrev pub scaled_heard : ℕ → Received → Received
scaled_heard factor s =
    record { moment = s.moment * factor; receiver = s.receiver; frame = s.frame }

-- The row with its moments in a finer unit: a unit of before is `factor` of these.
abbrev pub scaled_row : ℕ → Row → Row
scaled_row factor x = record {
  first = x.first * factor;
  receivers = x.receivers;
  greatest = scaled_heard factor x.greatest;
}

-- The rows with all their moments in a finer unit: a unit of before is `factor` of these.
abbrev pub scaled_rows : ℕ → List Row → List Row
scaled_rows factor rows = map (scaled_row factor) rows

-- Rows are the book of S under a gap exactly if they still are with all moments and the gap counted
-- in the finer unit.
abbrev pub ScalesBook : Type 0
ScalesBook =
    (factor gap : ℕ) (S : List Received) (rows : List Row) → 0 < factor
    → BookOf gap S rows
    ↔ BookOf (gap * factor) (map (scaled_heard factor) S) (scaled_rows factor rows)
