-- A row by its parts.
use Rattle.std.specs.Prelude.{ℕ, List}
use Rattle.aprs_transmissions.specs.Row.{Row}

-- The row of a first and a last moment, receivers, and the greatest reception's receiver and frame.
abbrev pub row_with : ℕ → ℕ → List (List ℕ) → List ℕ → List ℕ → Row
row_with start end names who bytes = record {
  first = start;
  receivers = names;
  greatest = record { moment = end; receiver = who; frame = bytes };
}
