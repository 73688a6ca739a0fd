-- Witnesses of rows: receptions that, if heard, would give exactly these rows, if the rows are
-- sound. They are made up, one for each millisecond of a row and one for each of its receivers.
-- What was really heard may be other receptions with the same rows.
use Rattle.std.specs.Prelude.{ℕ, ◌+◌, ◌-◌, List, [], ◌∷◌, ◌++◌, map, zero, suc}
use Rattle.aprs_log.specs.Reception.{Received}
use Rattle.aprs_transmissions.specs.Row.{Row, last_moment}

-- The n moments from m on, a millisecond apart.
abbrev pub moments : ℕ → ℕ → List ℕ
moments m zero = []
moments m (suc n) = m ∷ moments (m + 1) n

-- The witness of a row at a moment: its greatest reception, moved to that moment.
abbrev pub witness_at : Row → ℕ → Received
witness_at x m = record { moment = m; receiver = x.greatest.receiver; frame = x.greatest.frame }

-- The witness of a row by a receiver: its greatest reception's frame, at the row's first moment.
abbrev pub witness_by : Row → List ℕ → Received
witness_by x r = record { moment = x.first; receiver = r; frame = x.greatest.frame }

-- The witnesses of one row: one at each of its milliseconds, and one by each of its receivers.
abbrev pub witnesses_of_row : Row → List Received
witnesses_of_row x =
    map (witness_at x) (moments x.first (last_moment x - x.first + 1))
    ++ map (witness_by x) x.receivers

-- The witnesses of all rows.
abbrev pub witnesses : List Row → List Received
witnesses [] = []
witnesses (x ∷ xs) = witnesses_of_row x ++ witnesses xs
