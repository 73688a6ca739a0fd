-- The rows that several streams have in front, and which of them comes first. No public clause
-- cites this module.
use Rattle.std.specs.Prelude.{ℕ, List, Option, None}
use Rattle.std.specs.List.{last_or}
use Rattle.aprs_transmissions.specs.Row.{Row}
use Rattle.aprs_rows.specs.Fronts as Rows
use Rattle.aprs_bookfile.specs.RowStream.{front_of}
use Rattle.aprs_bookfile.specs.declared.row_stream.RowStream.{RowStream}

-- The row that a stream has in front, if there is one.
abbrev pub in_front : {A : Type 0} → RowStream A → Option Row
in_front stream = last_or None (front_of stream)

-- The row that the stream of this number has in front, if there is such a stream and it has one.
abbrev pub row_at : {A : Type 0} → List (RowStream A) → ℕ → Option Row
row_at streams = Rows.front_at in_front streams

-- The stream of this number has a row in front, and no other's comes before it.
abbrev pub IsFirst : {A : Type 0} → List (RowStream A) → ℕ → Type 0
IsFirst streams = Rows.ComesFirst in_front streams
