-- Rows of worked examples, and the lines that a history has of them.
use Rattle.std.specs.Prelude.{ℕ, ◌*◌, List, [], ◌∷◌, ◌++◌, map, codes}
use Rattle.aprs_transmissions.specs.Examples.{reception_at, example_row, rx1}
use Rattle.aprs_transmissions.specs.Row.{Row}

-- The frame from N0CALL-7 with this information to a destination, given as six characters: an
-- address has each of them shifted left by one bit.
abbrev pub frame_to : List ℕ → List ℕ → List ℕ
frame_to destination info = map (λ c. c * 2) destination ++ 0xE0
    ∷ 0x9C ∷ 0x60 ∷ 0x86 ∷ 0x82 ∷ 0x98 ∷ 0x98 ∷ 0x6F ∷ 0x03 ∷ 0xF0 ∷ info

-- The row of this frame, which RX1 heard once, at moment 0.
abbrev pub row_to : List ℕ → List ℕ → Row
row_to destination info = example_row 0 (rx1 ∷ []) (reception_at 0 rx1 (frame_to destination info))

-- The row of a report to APRS.
abbrev pub reported_once : List ℕ → Row
reported_once info = row_to (codes "APRS  ") info

-- The line of a row of `row_to`, of this kind, with this after the row's fields.
abbrev pub line_once : List ℕ → List ℕ → List ℕ
line_once kind told = kind
    ++ codes " 1970-01-01T00:00:00.000Z 1970-01-01T00:00:00.000Z RX1 N0CALL-7 - " ++ told
    ++ codes "\n"

-- This text, and LF.
abbrev pub with_lf : List ℕ → List ℕ
with_lf text = text ++ codes "\n"

-- The information of a Mic-E frame, as the standard shows it: a jeep, at 20 knots and 251 degrees.
abbrev pub jeep_info : List ℕ
jeep_info = codes "`(_fn\"Oj/"
